-- What collecting pieces answers and leaves.
use Rattle.std.specs.Prelude.{◌≡◌, refl, List, [], ◌∷◌, ℕ, ◌+◌, ◌*◌, ◌≤◌, ◌<◌, ℤ, length, get_or, replicate}
use Rattle.std.proofs.Common.{ap, arith, lit<}
use Rattle.exact.specs.Filling.{over, runs}
use Rattle.decimal.specs.Decimal.{digits_of, decimal}
use Rattle.listing_text.specs.Listing.{head_line, piece_text, pieces_text}
use Rattle.listing_text.specs.declared.pieces.Collected.{Collected}

-- of the net, the first piece and the output before the call; and of the answer and the output after it: the pieces
-- from the first up to the next, at least one and none beyond the last, lie over the front of the output
pub record PiecesContract (net : List ℤ) (w h first : ℕ) (out : List ℕ) (r : Collected) (out_after : List ℕ) : Type 0 where
  pub further : first < r.next
  pub there : r.next ≤ 1 + w * h
  pub fits : r.count ≤ length out
  pub count : r.count ≡ length (pieces_text net w h first r.next)
  pub contents : out_after ≡ over (pieces_text net w h first r.next) out

-- worked cases: the first piece of a net of 3 by 3, "net 3 3" and the line end, over the front of nine bytes; and what
-- the contract rules out, an output that has not changed, no piece at all, and one beyond the last
one_piece : (net : List ℤ) → PiecesContract net 3 3 0 (replicate 9 7) (record { count = 8; next = 1 })
    (110 ∷ 101 ∷ 116 ∷ 32 ∷ 51 ∷ 32 ∷ 51 ∷ 10 ∷ 7 ∷ [])
unfolding over pieces_text runs piece_text head_line decimal digits_of
one_piece net = record { further = lit< tt; there = omega arith; fits = omega arith; count = refl; contents = refl }

ruled_out : (net : List ℤ) (out after : List ℕ) →
    (PiecesContract net 3 3 0 (replicate 9 7) (record { count = 8; next = 1 }) (replicate 9 7) → ⊥)
    × (PiecesContract net 3 3 4 out (record { count = 0; next = 4 }) after → ⊥)
    × (PiecesContract net 3 3 4 out (record { count = 0; next = 11 }) after → ⊥)
unfolding over pieces_text runs piece_text head_line decimal digits_of
ruled_out net out after = (
  (λ c. omega (arith, ap (λ (l : List ℕ). get_or l 0 0) c.contents)),
  (λ c. omega (arith, c.further)),
  (λ c. omega (arith, c.there)),
)
