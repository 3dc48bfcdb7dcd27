-- What writing and then reading what was written answers.
use Rattle.std.specs.Prelude.{◌≡◌, refl, ◌||◌, List, [], ◌∷◌, ◌++◌, ℕ, ◌+◌, ◌-◌, ltb, ℤ, pos, length, take, replicate}
use Rattle.exact.specs.Filling.{over, runs}
use Rattle.net.specs.Net.{numbers, squares}
use Rattle.net.specs.Refusals.{net_beyond, output_after, zeros}
use Rattle.words.specs.NetFile.{word_bytes, point_bytes, net_file}
use Rattle.writer.specs.Refusals.{no_room, write_refusal}

-- writing and then reading what was written: 5 is of either output
abbrev pub copy_refusal : List ℤ → ℕ → ℕ → List ℕ → List ℤ → ℕ
copy_refusal net w h out back = write_refusal net w h (ltb (length back) (numbers w h) || no_room w h (length out))

-- the file in the output, and the net's numbers in the slice that it is read back into
abbrev pub copy_output : List ℤ → ℕ → ℕ → List ℕ → List ℤ → List ℕ
copy_output net w h out back = output_after (copy_refusal net w h out back) (net_file net w h) out

abbrev pub copy_back : List ℤ → ℕ → ℕ → List ℕ → List ℤ → List ℤ
copy_back net w h out back = output_after (copy_refusal net w h out back) (take (numbers w h) net) back

-- worked cases: of a net of 2 by 2, with a byte too few for the file, with a number too few to read into, and with
-- neither; of 2 by 3 numbers and one more that are the squares, copied with room for a byte and a number more, and
-- refused
examples :
    (copy_refusal zeros 2 2 (replicate 155 0) zeros ≡ 5)
    × (copy_refusal zeros 2 2 (replicate 156 0) (replicate (numbers 2 2 - 1) (pos 0)) ≡ 5)
    × (copy_refusal zeros 2 2 (replicate 156 0) zeros ≡ 0)
unfolding net_beyond
examples = (refl, refl, refl)

abbrev net23 : List ℤ
net23 = squares (numbers 2 3 + 1)

outputs :
    (copy_output net23 2 3 (replicate 229 7) (replicate 55 (pos 7)) ≡ net_file net23 2 3 ++ 7 ∷ [])
    × (copy_output net23 2 3 (replicate 229 7) (replicate 53 (pos 7)) ≡ replicate 229 7)
    × (copy_back net23 2 3 (replicate 229 7) (replicate 55 (pos 7)) ≡ squares (numbers 2 3) ++ pos 7 ∷ [])
    × (copy_back net23 2 3 (replicate 227 7) (replicate 55 (pos 7)) ≡ replicate 55 (pos 7))
unfolding net_beyond over net_file point_bytes word_bytes runs
outputs = (refl, refl, refl, refl)
