-- `seam::answers::store_points` meets its contract: six numbers, out of the bits that hold them, over the front.
use mathlib.Core.Path.{◌∙◌}
use mathlib.Core.List.{[], ◌∷◌}
use lib.IntN.{ℤ}
use lib.Seq.{sets}
use mir.Val.{to_z, of_z}
use mir.Syntax.{w32}
use Rattle.exact.proofs.FillingLaws.{sets_over}
use Rattle.exact.proofs.SignedCode.{reads_back}
use Rattle.seam.proofs.answers.store_points.Goals as goal

-- what the code holds of a coordinate
abbrev held : ℤ → ℤ
held z = to_z w32 (of_z w32 z)

pub returns : goal.returns
returns c =
    let told = c in
    let s = c in
    let a = s.args.first in
    let b = s.args.second in
    let f = told.struct_told-1.given in
    let g = c.struct_told-2-1.given in
    c.store_point-2.ensures
    ∙ (λ t. sets (c.store_point.ensures t) 3
    (held b.x ∷ held b.y ∷ held b.z ∷ []))
    ∙ (λ t. sets s.args.out.now 0
    (reads_back w32 a.x f.0.1 t ∷ reads_back w32 a.y f.1.0.1 t ∷ reads_back w32 a.z f.1.1.0.1 t
    ∷ reads_back w32 b.x g.0.1 t ∷ reads_back w32 b.y g.1.0.1 t ∷ reads_back w32 b.z g.1.1.0.1 t
    ∷ []))
    ∙ sets_over (a.x ∷ a.y ∷ a.z ∷ b.x ∷ b.y ∷ b.z ∷ []) s.args.out.now s.requires
