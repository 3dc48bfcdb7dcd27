-- What makes the pieces believable, of the definitions: the statements, each with the name of its proof.
use Rattle.std.specs.Prelude.{◌≡◌, List, ◌++◌, ℕ, ◌+◌, ◌*◌, ◌≤◌, ℤ}
use Rattle.exact.specs.Filling.{runs}
use Rattle.listing_text.specs.Listing.{listing, piece_text, pieces_text}

-- one after the other, the pieces are the listing (`pieces_list`)
abbrev pub PiecesList : Type 0
PiecesList = (net : List ℤ) (w h : ℕ) → runs (1 + w * h) (piece_text net w h) ≡ listing net w h

-- the pieces from one up to another, and then those from there up to a third, are those from the first up to the third;
-- and all are the listing (`pieces_in_parts`)
abbrev pub PiecesInParts : Type 0
PiecesInParts =
    (net : List ℤ) (w h : ℕ) →
    ((l m n : ℕ) → l ≤ m → m ≤ n → pieces_text net w h l m ++ pieces_text net w h m n ≡ pieces_text net w h l n)
    × (pieces_text net w h 0 (1 + w * h) ≡ listing net w h)
