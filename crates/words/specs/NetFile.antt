-- Document 01, "Net file": a word's kind and payload, its bytes, the file of a net, and what stands in the bytes of a
-- file.
use Rattle.std.specs.Prelude.{◌≡◌, refl, cond, List, [], ◌∷◌, ◌++◌, ℕ, zero, suc, ◌+◌, ◌-◌, ◌*◌, ◌/◌, ◌%◌, ◌<◌, ltb, ℤ, pos, negsuc, ◌-ℤ◌, get_or, take, drop}
use Rattle.exact.specs.Filling.{runs}
use Rattle.net.specs.Net.{number, point_stride}

-- 'top 4 bits the kind, 28 bits payload': a word of 32 bits, and its two parts
abbrev pub word : ℕ → ℕ → ℕ
word kind payload = kind * 268435456 + payload

abbrev pub word_kind : ℕ → ℕ
word_kind v = v / 268435456

abbrev pub word_payload : ℕ → ℕ
word_payload v = v % 268435456

-- 'Kinds: 1 width, 2 height; 3 x, 4 y, 5 z; 6 end'
abbrev pub width_kind : ℕ
width_kind = 1

abbrev pub height_kind : ℕ
height_kind = 2

abbrev pub x_kind : ℕ
x_kind = 3

abbrev pub y_kind : ℕ
y_kind = 4

abbrev pub z_kind : ℕ
z_kind = 5

abbrev pub end_kind : ℕ
end_kind = 6

-- 'two's complement', in the payload's 28 bits: the payload of a number, and the number of a payload
abbrev pub complement : ℤ → ℕ
complement (pos n) = n
complement (negsuc n) = 268435456 - suc n

abbrev pub signed : ℕ → ℤ
signed p = cond (ltb p 134217728) (pos p) (pos p -ℤ pos 268435456)

-- 'high byte first': the four bytes of a word, and the word in the first four bytes
unfoldable pub word_bytes : ℕ → List ℕ
word_bytes v = v / 16777216 % 256 ∷ v / 65536 % 256 ∷ v / 256 % 256 ∷ v % 256 ∷ []

unfoldable pub first_word : List ℕ → ℕ
first_word bytes = get_or bytes 0 0 * 16777216 + get_or bytes 1 0 * 65536 + get_or bytes 2 0 * 256 + get_or bytes 3 0

-- ---- the file of a net

-- so many control points a net has, each x, y, z
abbrev pub points : ℕ → ℕ → ℕ
points w h = 3 * (w * h)

-- a control point of a file has so many words, x, y, z, and so many bytes; two words stand before the first; and where
-- the n-th begins. A net's record has names of its own.
abbrev pub point_words : ℕ
point_words = 3

abbrev pub point_size : ℕ
point_size = 4 * point_words

abbrev pub head_size : ℕ
head_size = 8

abbrev pub point_place : ℕ → ℕ
point_place n = head_size + point_size * n

-- the bytes of a number, and of the control point that begins at a place of the net
abbrev pub number_bytes : ℕ → ℤ → List ℕ
number_bytes kind z = word_bytes (word kind (complement z))

unfoldable pub point_bytes : List ℤ → ℕ → List ℕ
point_bytes net at =
    number_bytes x_kind (number net at) ++ number_bytes y_kind (number net (at + 1))
    ++ number_bytes z_kind (number net (at + 2))

-- 'Order: width, height, the 9wh numbers, end', whose payload is 0
unfoldable pub net_file : List ℤ → ℕ → ℕ → List ℕ
net_file net w h =
    word_bytes (word width_kind w)
    ++ word_bytes (word height_kind h)
    ++ runs (points w h) (λ n. point_bytes net (point_stride * n))
    ++ word_bytes (word end_kind 0)

-- so many bytes it has: the end word stands after the last control point
abbrev pub file_size : ℕ → ℕ → ℕ
file_size w h = point_place (points w h) + 4

-- ---- what stands in the bytes of a file

-- the sides, in the first two words
abbrev pub file_width : List ℕ → ℕ
file_width file = word_payload (first_word file)

abbrev pub file_height : List ℕ → ℕ
file_height file = word_payload (first_word (drop 4 file))

-- the number in the first word of some bytes, and the control point in their first three
abbrev pub first_number : List ℕ → ℤ
first_number bytes = signed (word_payload (first_word bytes))

unfoldable pub first_point : List ℕ → List ℤ
first_point bytes = first_number bytes ∷ first_number (drop 4 bytes) ∷ first_number (drop 8 bytes) ∷ []

-- the bytes from control point n on
abbrev pub from_point : List ℕ → ℕ → List ℕ
from_point file n = drop (point_place n) file

-- the numbers of the net
abbrev pub file_numbers : List ℕ → List ℤ
file_numbers file = runs (points (file_width file) (file_height file)) (λ n. first_point (from_point file n))

-- the elements of a slice of bytes are bytes
abbrev pub AllBytes : List ℕ → Type 0
AllBytes file = (i : ℕ) → get_or file i 0 < 256

-- worked cases: a height word of 17, both ways; -1 and the limits of 28 bits; the word of y = -2; sizes and where
-- control point 5 begins; the file of 2 by 3 with the numbers -1 to -54

seventeen : (word_bytes (word height_kind 17) ≡ 32 ∷ 0 ∷ 0 ∷ 17 ∷ [])
    × (first_word (32 ∷ 0 ∷ 0 ∷ 17 ∷ 99 ∷ []) ≡ word height_kind 17)
unfolding word_bytes first_word
seventeen = (refl, refl)

kind_and_payload : (word_kind (word height_kind 17) ≡ height_kind) × (word_payload (word height_kind 17) ≡ 17)
kind_and_payload = (refl, refl)

complements :
    (complement (negsuc 0) ≡ 268435455)
    × (signed 268435455 ≡ negsuc 0)
    × (signed 134217727 ≡ pos 134217727)
    × (signed 134217728 ≡ negsuc 134217727)
complements = (refl, refl, refl, refl)

minus_two : (number_bytes y_kind (negsuc 1) ≡ 79 ∷ 255 ∷ 255 ∷ 254 ∷ []) × (first_number (79 ∷ 255 ∷ 255 ∷ 254 ∷ []) ≡ negsuc 1)
unfolding word_bytes first_word
minus_two = (refl, refl)

two_by_two : (file_size 2 2 ≡ 156) × (points 2 2 ≡ 12) × (point_place 5 ≡ 68)
two_by_two = (refl, refl, refl)

abbrev downwards : ℕ → List ℤ
downwards zero = []
downwards (suc n) = downwards n ++ negsuc n ∷ []

abbrev two_by_three : List ℕ
two_by_three = net_file (downwards 54) 2 3

-- width, height and x of the first control point; z of the last and the end
front_and_end :
    (take 12 two_by_three ≡ 16 ∷ 0 ∷ 0 ∷ 2 ∷ 32 ∷ 0 ∷ 0 ∷ 3 ∷ 63 ∷ 255 ∷ 255 ∷ 255 ∷ [])
    × (drop (file_size 2 3 - 8) two_by_three ≡ 95 ∷ 255 ∷ 255 ∷ 202 ∷ 96 ∷ 0 ∷ 0 ∷ 0 ∷ [])
unfolding word_bytes point_bytes net_file runs
front_and_end = (refl, refl)

found_again : (file_width two_by_three ≡ 2) × (file_height two_by_three ≡ 3) × (file_numbers two_by_three ≡ downwards 54)
unfolding word_bytes first_word point_bytes net_file first_point runs
found_again = (refl, refl, refl)
