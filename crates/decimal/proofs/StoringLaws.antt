-- Texts that are stored one after the other are one text, and the room that the next one has.
use mathlib.Core.Path.{◌≡◌, ap, subst, ◌∙◌}
use mathlib.Core.List.{List, ◌++◌}
use Prim.Native.Nat.{ℕ, ◌+◌, ◌≤◌}
use native.Mathlib.Nat.{le_trans}
use native.Mathlib.Omega.{arith}
use lib.ListN.{length, length-append}
use lib.Seq.{sets, length-sets}
use Rattle.exact.specs.Filling.{over}
use Rattle.exact.proofs.FillingLaws.{sets_after, sets_over}
use Rattle.decimal.specs.Storing.{Stored}

module _ {old : List ℕ} {at : ℕ} {xs mid : List ℕ} {m : ℕ} (first : Stored old at xs mid m) where
  pub stored_then : {ys new : List ℕ} {after : ℕ} → Stored mid m ys new after → Stored old at (xs ++ ys) new after
  stored_then {ys} next =
      record {
        contents = next.contents ∙ ap (λ (l : List ℕ). sets l m ys) first.contents
            ∙ sets_after old at xs ys first.place;
        place = omega (arith, next.place, first.place, length-append xs ys);
      }

  pub room_then : (ys : List ℕ) → at + length (xs ++ ys) ≤ length old → m + length ys ≤ length mid
  room_then ys h =
      omega (arith, h, first.place, length-append xs ys, ap length first.contents, length-sets old at xs)

-- the same text
pub stored_as : {old xs ys new : List ℕ} {at after : ℕ} → Stored old at xs new after → xs ≡ ys →
    Stored old at ys new after
stored_as {old} {new = new} {at} {after} s e = subst (λ (l : List ℕ). Stored old at l new after) e s

-- the room that the first of two texts has
pub room_first : (at : ℕ) (xs ys : List ℕ) {room : ℕ} → at + length (xs ++ ys) ≤ room → at + length xs ≤ room
room_first at xs ys h = omega (arith, h, length-append xs ys)

-- a line that is stored from the front on is laid over the front, and its end is its length
pub stored_line : {old line new : List ℕ} {after longest : ℕ} → Stored old 0 line new after → length line ≤ longest →
    longest ≤ length old →
    (new ≡ over line old) × ((after ≡ length line) × (after ≤ longest))
stored_line {old} {line} s h k =
    (s.contents ∙ sets_over line old (le_trans h k), (omega (arith, s.place), omega (arith, s.place, h)))
