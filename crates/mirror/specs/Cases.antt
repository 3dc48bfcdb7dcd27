-- Worked cases of `Mirrored` and `MirroredDetails`: what is a mirror image, and what is not.
use Rattle.std.specs.Prelude.{◌≡◌, refl, List, [], ◌∷◌, ◌++◌, zero, suc, T, eqb, ℤ, pos, negsuc, replicate, set}
use Rattle.std.proofs.Common.{subst, arith, lit<}
use Rattle.std.proofs.Math.IntN.{pos-ne-negsuc}
use Rattle.exact.specs.Filling.{runs}
use Rattle.net.specs.Net.{one, two, three, number, field, grid, control_point, control_triangle, squares}
use Rattle.steps.specs.RefinedNet.{stored}
use Rattle.details.specs.Details.{detail_field, detail_triangle}
use Rattle.mirror.specs.Mirror.{Coordinates, Opposite, Mirrored, MirroredDetails, mirror_net}

-- ---- what is one, in y: eight numbers of one vertex, whose ninth is the same, and what stands after it is not

abbrev y : Coordinates
y x = eqb x 1

abbrev eight : List ℤ
eight = pos 1 ∷ pos 2 ∷ pos 3 ∷ pos 4 ∷ pos 5 ∷ pos 6 ∷ pos 7 ∷ pos 8 ∷ []

abbrev image : List ℤ
image = pos 1 ∷ negsuc 1 ∷ pos 3 ∷ pos 4 ∷ negsuc 4 ∷ pos 6 ∷ pos 7 ∷ negsuc 7 ∷ []

nine_opposite : (l l' : List ℤ) → number l' 0 ≡ number l 0 →
    Opposite y 1 1 (field (eight ++ l) 1) (field (image ++ l') 1)
unfolding control_triangle control_point
nine_opposite l l' e zero c (suc i) j a b k = absurd (omega (arith, a))
nine_opposite l l' e zero c zero (suc j) a b k = absurd (omega (arith, b))
nine_opposite l l' e zero c zero zero a b one = refl
nine_opposite l l' e zero c zero zero a b two = refl
nine_opposite l l' e zero c zero zero a b three = refl
nine_opposite l l' e (suc zero) c (suc i) j a b k = absurd (omega (arith, a))
nine_opposite l l' e (suc zero) c zero (suc j) a b k = absurd (omega (arith, b))
nine_opposite l l' e (suc zero) c zero zero a b one = refl
nine_opposite l l' e (suc zero) c zero zero a b two = refl
nine_opposite l l' e (suc zero) c zero zero a b three = refl
nine_opposite l l' e (suc (suc zero)) c (suc i) j a b k = absurd (omega (arith, a))
nine_opposite l l' e (suc (suc zero)) c zero (suc j) a b k = absurd (omega (arith, b))
nine_opposite l l' e (suc (suc zero)) c zero zero a b one = refl
nine_opposite l l' e (suc (suc zero)) c zero zero a b two = refl
nine_opposite l l' e (suc (suc zero)) c zero zero a b three = e
nine_opposite l l' e (suc (suc (suc x))) c i j a b k = absurd (omega (arith, c))

nine_details : (l l' : List ℤ) → number l' 0 ≡ number l 0 →
    Opposite y 1 1 (detail_field (eight ++ l) 1) (detail_field (image ++ l') 1)
unfolding detail_triangle control_point
nine_details l l' e zero c (suc i) j a b k = absurd (omega (arith, a))
nine_details l l' e zero c zero (suc j) a b k = absurd (omega (arith, b))
nine_details l l' e zero c zero zero a b one = refl
nine_details l l' e zero c zero zero a b two = refl
nine_details l l' e zero c zero zero a b three = refl
nine_details l l' e (suc zero) c (suc i) j a b k = absurd (omega (arith, a))
nine_details l l' e (suc zero) c zero (suc j) a b k = absurd (omega (arith, b))
nine_details l l' e (suc zero) c zero zero a b one = refl
nine_details l l' e (suc zero) c zero zero a b two = refl
nine_details l l' e (suc zero) c zero zero a b three = refl
nine_details l l' e (suc (suc zero)) c (suc i) j a b k = absurd (omega (arith, a))
nine_details l l' e (suc (suc zero)) c zero (suc j) a b k = absurd (omega (arith, b))
nine_details l l' e (suc (suc zero)) c zero zero a b one = refl
nine_details l l' e (suc (suc zero)) c zero zero a b two = refl
nine_details l l' e (suc (suc zero)) c zero zero a b three = e
nine_details l l' e (suc (suc (suc x))) c i j a b k = absurd (omega (arith, c))

-- of a vertex with ten numbers and more, and of one that lacks its ninth on both sides
images :
    Mirrored y 1 1 (eight ++ pos 9 ∷ pos 10 ∷ []) (image ++ pos 9 ∷ pos 11 ∷ pos 12 ∷ []) × Mirrored y 1 1 (eight ++ []) (image ++ [])
images = (
  record { short = refl; opposite = nine_opposite (pos 9 ∷ pos 10 ∷ []) (pos 9 ∷ pos 11 ∷ pos 12 ∷ []) refl },
  record { short = refl; opposite = nine_opposite [] [] refl },
)

images_of_details :
    MirroredDetails y 1 1 (eight ++ pos 9 ∷ pos 10 ∷ []) (image ++ pos 9 ∷ pos 11 ∷ pos 12 ∷ [])
    × MirroredDetails y 1 1 (eight ++ []) (image ++ [])
images_of_details = (
  record { short = refl; opposite = nine_details (pos 9 ∷ pos 10 ∷ []) (pos 9 ∷ pos 11 ∷ pos 12 ∷ []) refl },
  record { short = refl; opposite = nine_details [] [] refl },
)

-- ---- what is none, in z, of 3 by 2: the net itself, one whose last number is not negated, and one that lacks it

abbrev z : Coordinates
z x = eqb x 2

not_itself : Mirrored z 3 2 (squares 54) (squares 54) → ⊥
unfolding control_triangle control_point
not_itself e = pos-ne-negsuc 4 3 (e.opposite 2 (lit< tt) 0 0 (lit< tt) (lit< tt) one)

not_the_last : Mirrored z 3 2 (squares 54) (set (mirror_net z (squares 54) 3 2) 53 (pos 2809)) → ⊥
unfolding mirror_net stored grid runs control_triangle control_point
not_the_last e = pos-ne-negsuc 2809 2808 (e.opposite 2 (lit< tt) 2 1 (lit< tt) (lit< tt) three)

not_short : Mirrored z 3 2 (replicate 54 (pos 0)) (replicate 53 (pos 0)) → ⊥
not_short e = subst T e.short tt

not_details : MirroredDetails z 3 2 (squares 54) (squares 54) → ⊥
unfolding detail_triangle control_point
not_details e = pos-ne-negsuc 2809 2808 (e.opposite 2 (lit< tt) 2 1 (lit< tt) (lit< tt) three)

not_short_details : MirroredDetails z 3 2 (replicate 54 (pos 0)) (replicate 53 (pos 0)) → ⊥
not_short_details e = subst T e.short tt
