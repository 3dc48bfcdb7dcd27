-- Document 01, "Net file", and demand 2: 'Written files read back, accepted files write back byte for byte'. Statements
-- about the definitions; the calls are held to these by their contracts.
use Rattle.std.specs.Prelude.{◌≡◌, Bool, false, List, [], ◌∷◌, ◌++◌, ℕ, ◌≤◌, ◌<◌, ℤ, length, take}
use Rattle.exact.specs.Filling.{over}
use Rattle.net.specs.Net.{numbers}
use Rattle.words.specs.NetFile.{net_file, file_width, file_height, AllBytes}
use Rattle.writer.specs.Refusals.{write_refusal}
use Rattle.writer.specs.Answers.{write_answer, write_output}
use Rattle.reader.specs.Refusals.{short_for, read_refusal}
use Rattle.reader.specs.Answers.{read_answer, read_net}

-- a net that the writer accepts, given room
abbrev pub Writable : List ℤ → ℕ → ℕ → Type 0
Writable net w h = write_refusal net w h false ≡ 0

-- a file that the reader accepts into a lent net
abbrev pub Readable : List ℕ → List ℤ → Type 0
Readable file lent = read_refusal file (short_for file (length lent)) ≡ 0

-- a written file reads back to its net, into any lent net that is at least as long
abbrev pub ReadsBack : Type 0
ReadsBack =
    (net : List ℤ) (w h : ℕ) (lent : List ℤ) → Writable net w h → numbers w h ≤ length lent →
    (read_answer (net_file net w h) lent ≡ (0, w ∷ h ∷ []))
    × (read_net (net_file net w h) lent ≡ over (take (numbers w h) net) lent)

-- an accepted file, read and written again into any output that is at least as long, is the same bytes
abbrev pub WritesBack : Type 0
WritesBack =
    (file : List ℕ) (lent : List ℤ) (out : List ℕ) → AllBytes file → Readable file lent → length file ≤ length out →
    (write_answer (read_net file lent) (file_width file) (file_height file) out ≡ (0, length file ∷ []))
    × (write_output (read_net file lent) (file_width file) (file_height file) out ≡ over file out)

-- two nets with the same file have the same width, height and first 9wh numbers
abbrev pub OneNet : Type 0
OneNet =
    (net other : List ℤ) (w h v k : ℕ) → Writable net w h → Writable other v k → net_file net w h ≡ net_file other v k →
    (w ≡ v) × (h ≡ k) × (take (numbers w h) net ≡ take (numbers w h) other)

-- no proper prefix of an accepted file is accepted, and nothing longer, whatever the room
abbrev pub OneLength : Type 0
OneLength =
    (file : List ℕ) (short other : Bool) → read_refusal file short ≡ 0 →
    ((n : ℕ) → n < length file → read_refusal (take n file) other ≡ 0 → ⊥)
    × ((more : List ℕ) → 0 < length more → read_refusal (file ++ more) other ≡ 0 → ⊥)
