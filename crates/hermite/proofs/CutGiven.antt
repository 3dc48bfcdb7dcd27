-- Numbers beyond those of the vertices do not matter: the refusal and the net are those of the given points cut there.
use mathlib.Core.Path.{◌≡◌, sym}
use mathlib.Core.List.{List, [], ◌∷◌}
use Prim.Native.Nat.{ℕ, ◌+◌, ◌*◌, ◌≤◌, ◌<◌}
use native.Mathlib.Omega.{arith}
use lib.Dec.{ltb}
use lib.IntN.{ℤ, pos}
use lib.ListN.{take, get_or}
use lib.Seq.{get_or-take}
use Rattle.net.specs.Net.{Vertex, vertex_at, number, numbers, control_point}
use Rattle.net.specs.Refusals.{first_fault, bad_size, net_beyond}
use Rattle.net.proofs.Beyond.{short_cut}
use Rattle.net.proofs.Places.{record_ends}
use Rattle.steps.proofs.StoredNets.{stored_same}
use Rattle.hermite.specs.Given.{vector_stride, given_stride, given_numbers, given_start, vectors_at, vectors}
use Rattle.hermite.specs.HermiteNet.{hermite_control, hermite_fields, hermite_net}
use Rattle.hermite.specs.Refusals.{given_refusal}

-- the first 9wh given numbers
abbrev pub cut_given : List ℤ → ℕ → ℕ → List ℤ
cut_given given w h = take (given_numbers w h) given

module _ (given : List ℤ) (w h : ℕ) where
  cut_vector : (at : ℕ) → at + vector_stride ≤ given_numbers w h → control_point given at ≡ control_point (cut_given given w h) at
  unfolding control_point
  cut_vector at e =
      let same : (n : ℕ) → n < given_numbers w h → number given n ≡ number (cut_given given w h) n =
      λ n l. sym (get_or-take (given_numbers w h) given n (pos 0) l) in
      λ t. same at (omega (arith, e)) t ∷ same (at + 1) (omega (arith, e)) t ∷ same (at + 2) (omega (arith, e)) t ∷ []

  -- p, t1 and t2 of a vertex of the grid
  cut_vectors : (v : Vertex) → given_start w v + given_stride ≤ given_numbers w h →
      vectors given w v ≡ vectors (cut_given given w h) w v
  unfolding vectors_at
  cut_vectors v e =
      let at = given_start w v in
      λ t.
      cut_vector at (omega (arith, e)) t ∷ cut_vector (at + vector_stride) (omega (arith, e)) t
      ∷ cut_vector (at + 2 * vector_stride) (omega (arith, e)) t ∷ []

  pub cut_hermite : hermite_net given w h ≡ hermite_net (cut_given given w h) w h
  unfolding hermite_net
  cut_hermite =
      stored_same (hermite_fields given w) (hermite_fields (cut_given given w h) w) w h
      (λ x c i j a b l.
      let same = cut_vectors (vertex_at i j) (record_ends given_stride {w = w} {h = h} {i = i} {j = j} a b) in
      λ t.
      hermite_control (number (get_or (same t) 0 []) x) (number (get_or (same t) 1 []) x) (number (get_or (same t) 2 []) x) l)

  pub cut_given_refusal : (room : ℕ) → given_refusal given w h room ≡ given_refusal (cut_given given w h) w h room
  cut_given_refusal room =
      λ t. first_fault
      ((bad_size w h, 1) ∷ (short_cut given (given_numbers w h) t, 2) ∷ (ltb room (numbers w h), 5)
      ∷ (net_beyond (cut_hermite t) w h, 16) ∷ [])
