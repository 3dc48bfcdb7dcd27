-- That the pieces are what is printed, of the definitions: the statement, with the name of its proof.
use Rattle.std.specs.Prelude.{◌≡◌, List, ℕ, ◌+◌, ◌*◌, ℤ, length}
use Rattle.exact.specs.Filling.{over, runs}
use Rattle.subdivision.specs.Refinement.{refined_side}
use Rattle.words.specs.NetFile.{file_width, file_height}
use Rattle.listing_text.specs.Listing.{piece_text}
use Rattle.listing_input.specs.Printed.{buffer_size, list_refusal, refined_file, file_text}

-- one after the other, the pieces of what one refinement of the file's net leaves in the buffer are what is printed
-- (`pieces_printed`)
abbrev pub PiecesPrinted : Type 0
PiecesPrinted =
    (file : List ℕ) (buffer : List ℤ) → length buffer ≡ buffer_size → list_refusal file buffer_size buffer_size ≡ 0 →
    (let w = refined_side (file_width file) in
    let h = refined_side (file_height file) in
    runs (1 + w * h) (piece_text (over (refined_file file) buffer) w h) ≡ file_text file)
