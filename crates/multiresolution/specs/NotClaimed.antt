-- What the contracts do not allow: so nothing weaker goes by their names.
use Rattle.std.specs.Prelude.{◌≡◌, refl, Bool, List, [], ◌∷◌, ℕ, ℤ, pos, nat_abs, replicate, set, Ok, Err}
use Rattle.std.proofs.Common.{ap, arith, lit<}
use Rattle.exact.specs.Rounding.{rounded, floor_quotient}
use Rattle.exact.specs.Filling.{over, runs}
use Rattle.net.specs.Net.{three, number, grid, control_point, control_triangle}
use Rattle.net.specs.Refusals.{net_beyond}
use Rattle.net.specs.declared.refusals.Refusal.TheVariants as refusal
use Rattle.steps.specs.RefinedNet.{stored}
use Rattle.coarse.specs.Coarse.{coarsened, coarse_net}
use Rattle.multiresolution.specs.Promises.{MovedBelow}
use Rattle.multiresolution.specs.Calls.{flat, RoundTrip, CleanedNet}

-- a net of one vertex whose last number, z of c3, is moved by 7 has not moved below 7
abbrev nine : List ℤ
nine = replicate 9 (pos 0)

moved_by_seven : MovedBelow 7 nine (set nine 8 (pos 7)) 1 1 → ⊥
unfolding control_triangle control_point
moved_by_seven m = omega (arith, m 0 0 (lit< tt) (lit< tt) three 2 (lit< tt))

-- the net of 3 by 3 zeros, whose round trip is accepted: not with a refusal for an answer, and not with other numbers
-- in the output
abbrev room : List ℤ
room = replicate 36 (pos 0)

not_refused : RoundTrip flat 3 3 room flat flat (Err refusal.Room) room flat flat → ⊥
unfolding net_beyond coarse_net coarsened stored grid runs rounded floor_quotient control_triangle control_point
not_refused k = omega (arith, ap (λ (a : ℕ × Bool). a.0) k.answer)

not_otherwise : RoundTrip flat 3 3 room flat flat (Ok tt) room flat (set flat 80 (pos 1)) → ⊥
unfolding over net_beyond coarse_net coarsened stored grid runs rounded floor_quotient control_triangle control_point
not_otherwise k = omega (arith, ap (λ (l : List ℤ). nat_abs (number l 80)) k.out_after)

-- cleaned below 7, the last number of that net does not come back as 7
not_moved : CleanedNet flat 3 3 7 room flat flat (Ok tt) room flat (set flat 80 (pos 7)) → ⊥
unfolding net_beyond coarse_net coarsened stored grid runs rounded floor_quotient control_triangle control_point
not_moved k = omega (arith, k.moved refl (lit< tt) 2 2 (lit< tt) (lit< tt) three 2 (lit< tt))
