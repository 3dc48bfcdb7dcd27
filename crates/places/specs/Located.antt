-- What the functions of places hand on to the evaluation. No public contract cites these.
use Rattle.std.specs.Prelude.{◌≡◌, Bool, List, [], ◌∷◌, ℕ, ℤ}
use Rattle.net.specs.Net.{Index, one, two, three, rank, is_next}
use Rattle.net.specs.Refusals.{first_fault, bad_size, short_net}
use Rattle.places.specs.Refusals.{no_place}
use Rattle.places.specs.Places.{Order, corner_p, corner_q, corner_t, cell, rest, is_down, share, gap_a, gap_b, gap_g}

-- the refusals of a place but for the range: 1, 6, 2
abbrev pub place_refusal : List ℤ → ℕ → ℕ → ℕ → ℕ → ℕ
place_refusal net w h p q = first_fault ((bad_size w h, 1) ∷ (no_place 1024 w h p q, 6) ∷ (short_net net w h, 2) ∷ [])

-- the cell, the kind of the triangle and the shares that belong to a place
pub record Placed (w h p q i j : ℕ) (down : Bool) (a b d : ℕ) : Type 0 where
  pub column : i ≡ cell 1024 w p
  pub row : j ≡ cell 1024 h q
  pub kind : down ≡ is_down 1024 (rest 1024 w p) (rest 1024 h q)
  pub share_1 : a ≡ share 1024 w h p q one
  pub share_2 : b ≡ share 1024 w h p q two
  pub share_3 : d ≡ share 1024 w h p q three

-- three shares by corner
abbrev pub shares : ℕ → ℕ → ℕ → Index → ℕ
shares a b d one = a
shares a b d two = b
shares a b d three = d

-- whether Q is the next corner after P
abbrev pub ahead_of : Order → Bool
ahead_of o = is_next (corner_p o) (corner_q o)

-- what puts the shares in order o: where P, Q and T stand among the corners, the direction from P to Q, and A, B, G
pub record InOrder (o : Order) (a : Index → ℕ) (P Q T : ℕ) (ahead : Bool) (A B G : ℕ) : Type 0 where
  pub first_corner : P ≡ rank (corner_p o)
  pub second_corner : Q ≡ rank (corner_q o)
  pub last_corner : T ≡ rank (corner_t o)
  pub direction : ahead ≡ ahead_of o
  pub first : A ≡ gap_a o a
  pub second : B ≡ gap_b o a
  pub last : G ≡ gap_g o a
