-- Document 02 c, beside document 01's "Turned away": the rows of the call, in the order 1, 2, 5, 16.
use Rattle.std.specs.Prelude.{◌≡◌, refl, Bool, false, List, [], ◌∷◌, ◌++◌, ℕ, ◌≤◌, ltb, ℤ, pos, negsuc, length, replicate, set}
use Rattle.exact.specs.Filling.{runs}
use Rattle.net.specs.Net.{numbers, grid, control_point}
use Rattle.net.specs.Refusals.{Fault, first_fault, bad_size, net_beyond, zeros, too_large, too_few}
use Rattle.steps.specs.RefinedNet.{stored}
use Rattle.hermite.specs.Given.{given_numbers, vectors_at}
use Rattle.hermite.specs.HermiteNet.{hermite_net}

-- 2: fewer given numbers than nine a vertex
abbrev pub short_given : List ℤ → ℕ → ℕ → Bool
short_given given w h = ltb (length given) (given_numbers w h)

-- 16: a control value of the answer outside the net range
abbrev pub hermite_beyond : List ℤ → ℕ → ℕ → Bool
hermite_beyond given w h = net_beyond (hermite_net given w h) w h

-- 5: an output of `room` numbers is shorter than the net
abbrev pub given_faults : List ℤ → ℕ → ℕ → ℕ → List Fault
given_faults given w h room =
    (bad_size w h, 1) ∷ (short_given given w h, 2) ∷ (ltb room (numbers w h), 5) ∷ (hermite_beyond given w h, 16) ∷ []

abbrev pub given_refusal : List ℤ → ℕ → ℕ → ℕ → ℕ
given_refusal given w h room = first_fault (given_faults given w h room)

-- what is known of given points where 1 and 2 do not refuse, and where 16 does not either
pub record Enough (given : List ℤ) (w h : ℕ) : Type 0 where
  pub size : bad_size w h ≡ false
  pub long : given_numbers w h ≤ length given

pub record Fitting (given : List ℤ) (w h : ℕ) : Type 0 where
  pub enough : Enough given w h
  pub fine : hermite_beyond given w h ≡ false

-- ---- worked cases

-- every fault at once, with either side, and then without the one that was found, to none
order :
    (given_refusal too_few 1026 2 0 ≡ 1)
    × (given_refusal too_few 2 1 0 ≡ 1)
    × (given_refusal too_few 2 2 0 ≡ 2)
    × (given_refusal (too_large 0) 2 2 35 ≡ 5)
    × (given_refusal (too_large 0) 2 2 36 ≡ 16)
    × (given_refusal zeros 2 2 36 ≡ 0)
unfolding net_beyond hermite_net stored grid runs vectors_at control_point
order = (refl, refl, refl, refl, refl, refl)

-- 2 by 3 needs 54 numbers, and one after them does not matter; at the last vertex, z of t1 takes c1 and c3 to the ends
-- of the range and past them, also of 3 by 2, and z of p and t2 c2 alone and c3 alone; at the first, c1 and c2 are 0
-- and c3 is 4,294,967,295, which 32 bits would make -1
abbrev nothing : List ℤ
nothing = replicate 54 (pos 0)

lengths :
    (given_refusal nothing 2 3 54 ≡ 0)
    × (given_refusal (replicate 53 (pos 0)) 2 3 54 ≡ 2)
    × (given_refusal nothing 2 3 53 ≡ 5)
    × (given_refusal (nothing ++ pos 16777217 ∷ []) 2 3 54 ≡ 0)
unfolding net_beyond hermite_net stored grid runs vectors_at control_point
lengths = (refl, refl, refl, refl)

ranges :
    (given_refusal (set nothing 50 (negsuc 16777215)) 2 3 54 ≡ 0)
    × (given_refusal (set nothing 50 (negsuc 16777216)) 2 3 54 ≡ 16)
    × (given_refusal (set nothing 50 (negsuc 16777216)) 3 2 54 ≡ 16)
    × (given_refusal (set (set nothing 47 (pos 16777216)) 53 (pos 1)) 2 3 54 ≡ 16)
    × (given_refusal (set (set nothing 47 (negsuc 0)) 53 (pos 16777216)) 2 3 54 ≡ 16)
    × (given_refusal (set (set (set nothing 0 (pos 1431655765)) 3 (negsuc 1431655764)) 6 (negsuc 1431655764)) 2 3 54 ≡ 16)
unfolding net_beyond hermite_net stored grid runs vectors_at control_point
ranges = (refl, refl, refl, refl, refl, refl)
