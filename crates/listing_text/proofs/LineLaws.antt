-- The lines as they are stored, a number with the byte that ends it at a time, and how long they are.
use mathlib.Core.Path.{◌≡◌}
use mathlib.Core.List.{◌++◌, append_assoc}
use Prim.Native.Nat.{ℕ, ◌^◌, ◌≤◌, ◌<◌}
use native.Mathlib.Omega.{arith}
use lib.IntN.{ℤ, nat_abs}
use lib.ListN.{length, length-append}
use Rattle.decimal.specs.Decimal.{decimal, signed_decimal}
use Rattle.decimal.proofs.DecimalLaws.{decimal_length, signed_length}
use Rattle.listing_text.specs.Listing.{space, line_end, net_word, refused_word, head_line, point_line, refusal_line, longest_line}

pub head_parts : (w h : ℕ) → (net_word ++ space) ++ (decimal w ++ space) ++ (decimal h ++ line_end) ≡ head_line w h
unfolding head_line
head_parts w h = simp append_assoc

pub point_parts : (i j : ℕ) (x y z : ℤ) →
    (decimal i ++ space) ++ (decimal j ++ space) ++ (signed_decimal x ++ space) ++ (signed_decimal y ++ space)
    ++ (signed_decimal z ++ line_end)
    ≡ point_line i j x y z
unfolding point_line
point_parts i j x y z = simp append_assoc

pub refusal_parts : (n : ℕ) → (refused_word ++ space) ++ (decimal n ++ line_end) ≡ refusal_line n
unfolding refusal_line
refusal_parts n = simp append_assoc

-- ---- their lengths

pub head_length : (w h : ℕ) → w < 10 ^ 4 → h < 10 ^ 4 → length (head_line w h) ≤ longest_line
unfolding head_line
head_length w h a b = simp length-append (omega (arith, decimal_length 3 w a, decimal_length 3 h b))

pub point_length : (i j : ℕ) (x y z : ℤ) → i < 10 ^ 4 → j < 10 ^ 4 → nat_abs x < 10 ^ 10 → nat_abs y < 10 ^ 10 →
    nat_abs z < 10 ^ 10 →
    length (point_line i j x y z) ≤ longest_line
unfolding point_line
point_length i j x y z a b c d e =
    simp length-append
    (omega (arith, decimal_length 3 i a, decimal_length 3 j b, signed_length x c, signed_length y d, signed_length z e))

pub refusal_length : (n : ℕ) → n < 10 ^ 10 → length (refusal_line n) ≤ longest_line
unfolding refusal_line
refusal_length n h = simp length-append (omega (arith, decimal_length 9 n h))
