-- Words: kind and payload, bytes and two's complement, there and back.
use mathlib.Core.Path.{◌≡◌, refl, sym, ap, subst, ◌∙◌}
use mathlib.Core.List.{List, [], ◌∷◌, ◌++◌}
use Prim.Native.Nat.{ℕ, suc, ◌+◌, ◌-◌, ◌*◌, ◌/◌, ◌%◌, ◌≤◌, ◌<◌}
use native.Mathlib.Nat.{div-div-eq-div-mul, mod-eq_of_lt}
use native.Mathlib.Decide.{dec_lt}
use native.Mathlib.Omega.{arith}
use lib.Arith.{digits_div, digits_mod}
use lib.Dec.{T, ltb, lit<}
use lib.Signed.{non_neg}
use lib.IntN.{ℤ, pos, negsuc, nat_abs, ◌+ℤ◌, ◌-ℤ◌}
use lib.ListN.{length, get_or, take}
use mir.Syntax.{w32}
use mir.Val.{Fits}
use borrow.Author.Tests.{lt-ltb, le-ltb}
use Rattle.exact.specs.Filling.{runs}
use Rattle.exact.proofs.Parts.{integers, sum_parts, difference_parts}
use Rattle.exact.proofs.FillingLaws.{runs_of_list}
use Rattle.net.proofs.Faults.{cond_true, cond_false}
use Rattle.words.specs.NetFile.{word, word_kind, word_payload, complement, signed, word_bytes, first_word, AllBytes}
use Rattle.words.specs.declared.kinds.Kind.{Kind}
use Rattle.words.specs.declared.kinds.Kind.TheVariants as kind
use Rattle.words.specs.Kinds.{kind_number}
use Rattle.words.specs.LowFirst.{swapped_bytes, low_first, low_bytes}

-- ---- kind and payload

pub kind_of_word : (kind : ℕ) {payload : ℕ} → payload < 268435456 → word_kind (word kind payload) ≡ kind
kind_of_word kind h = digits_div kind h

pub payload_of_word : (kind : ℕ) {payload : ℕ} → payload < 268435456 → word_payload (word kind payload) ≡ payload
payload_of_word kind h = digits_mod kind h

-- a kind is less than 2^4, so that it fits beside 28 bits
pub kind_small : (k : Kind) → kind_number k < 16
kind_small kind.Width = lit< tt
kind_small kind.Height = lit< tt
kind_small kind.X = lit< tt
kind_small kind.Y = lit< tt
kind_small kind.Z = lit< tt
kind_small kind.End = lit< tt

pub payload_small : (v : ℕ) → word_payload v < 268435456
payload_small v = omega arith

pub word_of_parts : (v : ℕ) {kind : ℕ} → word_kind v ≡ kind → word kind (word_payload v) ≡ v
word_of_parts v e = omega arith

-- ---- bytes

-- a quotient by two bytes and by three, as nested_quotients by one
nested_quotients : (v : ℕ) → (v / 65536 ≡ v / 256 / 256) × (v / 16777216 ≡ v / 256 / 256 / 256)
nested_quotients v = (
  sym (div-div-eq-div-mul v 256 256),
  sym (div-div-eq-div-mul v 256 65536) ∙ sym (div-div-eq-div-mul (v / 256) 256 256),
)

pub first_of_bytes : (v : ℕ) (after : List ℕ) → v < 4294967296 → first_word (word_bytes v ++ after) ≡ v
unfolding word_bytes first_word
first_of_bytes v after h =
    let top : v / 16777216 < 256 = omega arith in
    let high : v / 16777216 % 256 ≡ v / 16777216 = mod-eq_of_lt top in
    omega (arith, nested_quotients v, high)

-- the bytes of a word that is put together of four
module _ (a b c d : ℕ) (ha : a < 256) (hb : b < 256) (hc : c < 256) (hd : d < 256) where
  abbrev joined : ℕ
  joined = a * 16777216 + b * 65536 + c * 256 + d

  byte_a : joined / 16777216 ≡ a
  byte_a = omega (arith, ha, hb, hc, hd)

  byte_b : joined / 65536 % 256 ≡ b
  byte_b = omega (arith, ha, hb, hc, hd)

  byte_c : joined / 256 % 256 ≡ c
  byte_c = omega (arith, ha, hb, hc, hd)

  byte_d : joined % 256 ≡ d
  byte_d = omega (arith, ha, hb, hc, hd)

-- four bytes are those of their word
pub bytes_of_first : (bytes : List ℕ) → 4 ≤ length bytes → AllBytes bytes → word_bytes (first_word bytes) ≡ take 4 bytes
unfolding word_bytes first_word runs
bytes_of_first bytes long small =
    let a = get_or bytes 0 0 in
    let b = get_or bytes 1 0 in
    let c = get_or bytes 2 0 in
    let d = get_or bytes 3 0 in
    let first = ap (λ (n : ℕ). n % 256) (byte_a a b c d (small 0) (small 1) (small 2) (small 3))
    ∙ mod-eq_of_lt (small 0) in
    let second = byte_b a b c d (small 0) (small 1) (small 2) (small 3) in
    let third = byte_c a b c d (small 0) (small 1) (small 2) (small 3) in
    let fourth = byte_d a b c d (small 0) (small 1) (small 2) (small 3) in
    (λ t. first t ∷ second t ∷ third t ∷ fourth t ∷ []) ∙ runs_of_list 0 bytes 4 long

-- a word is determined by its four bytes
pub same_first : (l m : List ℕ) → ((i : ℕ) → i < 4 → get_or l i 0 ≡ get_or m i 0) → first_word l ≡ first_word m
unfolding first_word
same_first l m byte =
    λ t. byte 0 (lit< tt) t * 16777216 + byte 1 (lit< tt) t * 65536 + byte 2 (lit< tt) t * 256 + byte 3 (lit< tt) t

-- ---- bytes the other way round

pub swapped_first : (bytes : List ℕ) → AllBytes bytes → swapped_bytes (low_first bytes) ≡ first_word bytes
unfolding swapped_bytes low_first first_word
swapped_first bytes small =
    let a = get_or bytes 0 0 in
    let b = get_or bytes 1 0 in
    let c = get_or bytes 2 0 in
    let d = get_or bytes 3 0 in
    let order : a + b * 256 + c * 65536 + d * 16777216 ≡ d * 16777216 + c * 65536 + b * 256 + a = omega arith in
    let first = byte_d d c b a (small 3) (small 2) (small 1) (small 0) in
    let second = byte_c d c b a (small 3) (small 2) (small 1) (small 0) in
    let third = byte_b d c b a (small 3) (small 2) (small 1) (small 0) in
    let fourth = byte_a d c b a (small 3) (small 2) (small 1) (small 0) in
    ap (λ (v : ℕ). v % 256 * 16777216 + v / 256 % 256 * 65536 + v / 65536 % 256 * 256 + v / 16777216) order
    ∙ (λ t. first t * 16777216 + second t * 65536 + third t * 256 + fourth t)

pub low_swapped : (v : ℕ) → v < 4294967296 → low_bytes (swapped_bytes v) ≡ word_bytes v
unfolding swapped_bytes low_bytes word_bytes
low_swapped v h =
    let a = v % 256 in
    let b = v / 256 % 256 in
    let c = v / 65536 % 256 in
    let d = v / 16777216 in
    let ha : a < 256 = omega arith in
    let hb : b < 256 = omega arith in
    let hc : c < 256 = omega arith in
    let hd : d < 256 = omega arith in
    let first = byte_d a b c d ha hb hc hd ∙ sym (mod-eq_of_lt hd) in
    let second = byte_c a b c d ha hb hc hd in
    let third = byte_b a b c d ha hb hc hd in
    let fourth = byte_a a b c d ha hb hc hd in
    λ t. first t ∷ second t ∷ third t ∷ fourth t ∷ []

-- ---- two's complement

pub signed_low : (p : ℕ) → p < 134217728 → pos p ≡ signed p
signed_low p h = cond_true (ltb p 134217728) (pos p) (pos p -ℤ pos 268435456) (lt-ltb p 134217728 h)

pub signed_high : (p : ℕ) → 134217728 ≤ p → pos p -ℤ pos 268435456 ≡ signed p
signed_high p h = cond_false (ltb p 134217728) (pos p) (pos p -ℤ pos 268435456) (le-ltb p 134217728 h) refl

-- a payload from the half on is below zero by what it lacks
below_zero : (p : ℕ) → p < 268435456 → pos p -ℤ pos 268435456 ≡ negsuc (268435455 - p)
below_zero p h = omega (integers, difference_parts (pos p) (pos 268435456))

pub complement_small : (z : ℤ) → nat_abs z ≤ 16777216 → complement z < 268435456
complement_small (pos n) h = omega arith
complement_small (negsuc n) h = omega arith

pub signed_complement : (z : ℤ) → nat_abs z ≤ 16777216 → signed (complement z) ≡ z
signed_complement (pos n) h = sym (signed_low n (omega arith))
signed_complement (negsuc n) h =
    sym (signed_high (268435456 - suc n) (omega arith)) ∙ below_zero (268435456 - suc n) (omega arith)
    ∙ ap negsuc (omega arith)

pub complement_signed : (p : ℕ) → p < 268435456 → complement (signed p) ≡ p
complement_signed p h = go (dec_lt p 134217728)
  where
    go : Dec (p < 134217728) → complement (signed p) ≡ p
    go (yes l) = sym (ap complement (signed_low p l))
    go (no l) = sym (ap complement (signed_high p (omega arith))) ∙ ap complement (below_zero p h) ∙ omega arith

-- the code's way: half of 2^28 is added, modulo 2^28, and taken off again
pub signed_round : (p : ℕ) → p < 268435456 → pos ((p + 134217728) % 268435456) -ℤ pos 134217728 ≡ signed p
signed_round p h = go (dec_lt p 134217728)
  where
    go : Dec (p < 134217728) → pos ((p + 134217728) % 268435456) -ℤ pos 134217728 ≡ signed p
    go (yes l) =
        let m : (p + 134217728) % 268435456 ≡ p + 134217728 = mod-eq_of_lt (omega arith) in
        ap (λ (k : ℕ). pos k -ℤ pos 134217728) m
        ∙ omega (integers, difference_parts (pos (p + 134217728)) (pos 134217728)) ∙ signed_low p l
    go (no l) =
        let m : (p + 134217728) % 268435456 ≡ p - 134217728 = omega arith in
        ap (λ (k : ℕ). pos k -ℤ pos 134217728) m
        ∙ omega (
          integers,
          difference_parts (pos (p - 134217728)) (pos 134217728),
          difference_parts (pos p)
              (pos 268435456),
        )
        ∙ signed_high p (omega arith)

-- and 2^28 is added before the remainder
abbrev pub raised : ℤ → ℕ
raised (pos n) = n + 268435456
raised (negsuc n) = 268435456 - suc n

pub raised_is : (z : ℤ) → nat_abs z ≤ 16777216 → z +ℤ pos 268435456 ≡ pos (raised z)
raised_is (pos n) h = refl
raised_is (negsuc n) h = omega (integers, sum_parts (negsuc n) (pos 268435456))

pub raised_small : (z : ℤ) → nat_abs z ≤ 16777216 → raised z < 4294967296
raised_small (pos n) h = omega arith
raised_small (negsuc n) h = omega arith

pub raised_complement : (z : ℤ) → nat_abs z ≤ 16777216 → raised z % 268435456 ≡ complement z
raised_complement (pos n) h = omega arith
raised_complement (negsuc n) h = mod-eq_of_lt (omega arith)

-- what is cast to an unsigned number
pub natural : {x : ℤ} {m : ℕ} → x ≡ pos m → m < 4294967296 → T (non_neg x) × Fits w32 (nat_abs x)
natural {x} {m} e h = subst (λ (y : ℤ). T (non_neg y) × Fits w32 (nat_abs y)) (sym e) (tt, record { fits = h })
