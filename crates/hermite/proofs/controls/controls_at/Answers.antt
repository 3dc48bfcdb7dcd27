-- `hermite::controls::controls_at` meets its contract.
use mathlib.Core.List.{[], ◌∷◌}
use mathlib.Core.Path.{◌∙◌}
use Rattle.hermite.specs.Given.{vectors_at}
use Rattle.hermite.specs.Sums.{sum_point, difference_point}
use Rattle.hermite.proofs.controls.controls_at.Goals as goal

pub returns : goal.returns
unfolding vectors_at
returns c =
    let second = c in
    let first = c in
    let b = c in
    let p = b.load_point-p.ensures in
    let t1 = b.load_point-t1.ensures in
    let t2 = b.load_point-t2.ensures in
    λ i.
    (first.sum_point-c1.ensures ∙ (λ j. sum_point (p j) (t1 j))) i
    ∷ (second.sum_point-c2.ensures ∙ (λ j. sum_point (p j) (t2 j))) i
    ∷ (c.difference_point-c3.ensures ∙ (λ j. difference_point (p j) (t1 j) (t2 j))) i
    ∷ []
