-- `de_casteljau::averages::averages_of` meets its contract.
use mathlib.Core.List.{List, [], ◌∷◌}
use mathlib.Core.Path.{◌≡◌, sym, subst}
use Prim.Native.Nat.{ℕ, ◌^◌, ◌≤◌}
use lib.Dec.{lit≤}
use lib.IntN.{ℤ, nat_abs}
use Rattle.exact.specs.WeightedSum.{Within}
use Rattle.exact.proofs.WeightedSumLaws.{within_more}
use Rattle.de_casteljau.specs.declared.points.Ordinates.{Ordinates}
use Rattle.de_casteljau.specs.Ordinates.{six}
use Rattle.de_casteljau.specs.Averages.{average, first_average, second_average, third_average}
use Rattle.de_casteljau.proofs.Averaging.{held, held_average, average_size}
use Rattle.de_casteljau.proofs.averages.averages_of.Goals as goal
use Rattle.de_casteljau.proofs.averages.averages_of.Goals.{After-weigh-b001, Start}

-- the three points of each first average
module _ (c : Start) where
  abbrev o : Ordinates
  o = c.args.o

  abbrev sizes : Within (2 ^ 38) (six o)
  sizes = c.requires.1

  abbrev first_three : List ℤ
  first_three = o.b200 ∷ o.b110 ∷ o.b101 ∷ []

  abbrev second_three : List ℤ
  second_three = o.b110 ∷ o.b020 ∷ o.b011 ∷ []

  abbrev third_three : List ℤ
  third_three = o.b101 ∷ o.b011 ∷ o.b002 ∷ []

  first_three_lem : Within (2 ^ 38) first_three
  first_three_lem = (sizes.0, (sizes.1.0, (sizes.1.1.0, tt)))

  second_three_lem : Within (2 ^ 38) second_three
  second_three_lem = (sizes.1.0, (sizes.1.1.1.0, (sizes.1.1.1.1.0, tt)))

  third_three_lem : Within (2 ^ 38) third_three
  third_three_lem = (sizes.1.1.0, (sizes.1.1.1.1.0, (sizes.1.1.1.1.1.0, tt)))

wide : (zs : List ℤ) → Within (2 ^ 38) zs → Within (2 ^ 48) zs
wide = within_more (2 ^ 38) (2 ^ 48) (lit≤ tt)

-- what the first three calls gave, and its size
module _ (c : After-weigh-b001) where
  abbrev start : Start
  start = (goal.at.After-weigh-b001 c).Start

  abbrev a : ℕ
  a = start.args.a

  abbrev b : ℕ
  b = start.args.b

  abbrev g : ℕ
  g = start.args.g

  first : held c.weigh-b100.result ≡ first_average a b g (o start)
  first =
      let w = c.weigh-b100 in
      held_average a b g w.result (o start).b200 (o start).b110 (o start).b101
      (wide (first_three start) (first_three_lem start)) w.type_inv w.ensures

  second : held c.weigh-b010.result ≡ second_average a b g (o start)
  second =
      let w = c.weigh-b010 in
      held_average a b g w.result (o start).b110 (o start).b020 (o start).b011
      (wide (second_three start) (second_three_lem start)) w.type_inv w.ensures

  third : held c.weigh-b001.result ≡ third_average a b g (o start)
  third =
      held_average a b g c.weigh-b001.result (o start).b101 (o start).b011 (o start).b002
      (wide (third_three start) (third_three_lem start)) c.weigh-b001.type_inv c.weigh-b001.ensures

  size : (x y z : ℤ) {r : ℤ} → r ≡ average a b g x y z → Within (2 ^ 38) (x ∷ y ∷ z ∷ []) → nat_abs r ≤ 2 ^ 48
  size x y z e h =
      subst (λ (z : ℤ). nat_abs z ≤ 2 ^ 48) (sym e) (average_size a b g (2 ^ 38) x y z start.requires.0 h)

pub weigh-b000-requires : goal.weigh-b000-requires
weigh-b000-requires c =
    let s = start c in (
      s.requires.0,
      (size c (o s).b200 (o s).b110 (o s).b101 (first c) (first_three_lem s), (size c (o s).b110 (o s).b020 (o s).b011 (second c) (second_three_lem s), (size c (o s).b101 (o s).b011 (o s).b002 (third c) (third_three_lem s), tt))),
    )
