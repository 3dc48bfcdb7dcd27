-- Document 01, "Turned away": the rows of the writer, in the order 1, 2, 5, 3.
use Rattle.std.specs.Prelude.{◌≡◌, refl, Bool, true, false, List, [], ◌∷◌, ℕ, ◌-◌, ltb, ℤ}
use Rattle.net.specs.Net.{numbers}
use Rattle.net.specs.Refusals.{Fault, first_fault, bad_size, short_net, net_beyond, zeros, too_large, too_few}
use Rattle.words.specs.NetFile.{file_size}

-- the writer: 1, 2, 5, 3, and 3 looks at the whole net; `short` is whether a lent output is too short
abbrev pub write_faults : List ℤ → ℕ → ℕ → Bool → List Fault
write_faults net w h short =
    (bad_size w h, 1) ∷ (short_net net w h, 2) ∷ (short, 5) ∷ (net_beyond net w h, 3) ∷ []

abbrev pub write_refusal : List ℤ → ℕ → ℕ → Bool → ℕ
write_refusal net w h short = first_fault (write_faults net w h short)

-- an output of so many bytes is too short for the file
abbrev pub no_room : ℕ → ℕ → ℕ → Bool
no_room w h room = ltb room (file_size w h)

-- worked cases: document 01's example of 5, and a byte more; every fault at once, and then without the one that was
-- found, to none
write_examples : (write_refusal zeros 2 2 (no_room 2 2 155) ≡ 5) × (write_refusal zeros 2 2 (no_room 2 2 156) ≡ 0)
unfolding net_beyond
write_examples = (refl, refl)

order :
    (write_refusal too_few 1026 2 true ≡ 1)
    × (write_refusal too_few 2 2 true ≡ 2)
    × (write_refusal (too_large (numbers 2 2 - 1)) 2 2 true ≡ 5)
    × (write_refusal (too_large (numbers 2 2 - 1)) 2 2 false ≡ 3)
    × (write_refusal zeros 2 2 false ≡ 0)
unfolding net_beyond
order = (refl, refl, refl, refl, refl)
