-- From the rows before 5 and the plain call's answer to the answer with an outline.
use mathlib.Core.Path.{◌≡◌, ap, ◌∙◌}
use mathlib.Core.Bool.{Bool, false, cond}
use mathlib.Core.List.{List, [], ◌∷◌, ◌++◌}
use Prim.Native.Nat.{ℕ}
use lib.Dec.{ltb, eqb, lit<}
use lib.IntN.{ℤ}
use lib.Ieee.{Float}
use lib.ListN.{length}
use Rattle.exact.specs.Filling.{over}
use Rattle.net.specs.Refusals.{Fault, first_fault, accepted, output_after}
use Rattle.net.proofs.Faults.{Clear, none_clear, fault_before, refused_answer, not_carried_out, when_refused}
use Rattle.places.specs.Places.{chosen}
use Rattle.triangles.specs.Refusals.{triangle_beyond}
use Rattle.bezier.specs.BezierNet.{bezier_numbers}
use Rattle.bezier.specs.Refusals.{bezier_refusal}
use Rattle.bezier.specs.Answers.{bezier_answer, bezier_output}
use Rattle.surface.specs.Refusals.{point_refusal_with}
use Rattle.surface.specs.SurfacePoint.{surface_point}
use Rattle.surface.specs.Answers.{view_point, point_answer_with, view_answer_with}
use Rattle.outlined_points.specs.Refusals.{triangle_by, point_faults, outlined_point_refusal, bezier_faults, outlined_bezier_refusal}
use Rattle.outlined_points.specs.Answers.{outlined_point_answer_with, outlined_view_answer_with, outlined_bezier_answer, outlined_bezier_output}
use Rattle.outlined_points.proofs.RowLaws.{past, place_faults, clear_point, clear_plain, plain_faults, clear_bezier, clear_plain_net}

module _ (net : List ℤ) (w h : ℕ) (outline : List ℕ) (p q : ℕ) (short : Bool) where
  -- the plain rows from 5 on
  abbrev last_rows : List Fault
  last_rows = (short, 5) ∷ (triangle_beyond net w (chosen 1024 w h p q), 3) ∷ []

  pub plain_rows : Clear (point_faults net w h outline p q) →
      point_refusal_with net w h p q short ≡ outlined_point_refusal net w h outline p q short
  plain_rows k =
      past (place_faults net w h p q) (point_faults net w h outline p q) last_rows (clear_plain net w h outline p q k) k

  refusal_is : {n : ℕ} → n ≡ first_fault (point_faults net w h outline p q) → n ≡ 0 →
      point_refusal_with net w h p q short ≡ outlined_point_refusal net w h outline p q short
  refusal_is e z = plain_rows (clear_point net w h outline p q e z)

  refused_first : {n : ℕ} → n ≡ first_fault (point_faults net w h outline p q) → (n ≡ 0 → ⊥) →
      n ≡ outlined_point_refusal net w h outline p q short
  refused_first e k = e ∙ fault_before (point_faults net w h outline p q) last_rows (λ z. k (e ∙ z))

  -- a point that a row before 5 refuses, and one that none of them does
  pub refused_point : {n : ℕ} → n ≡ first_fault (point_faults net w h outline p q) → (n ≡ 0 → ⊥) →
      (n, []) ≡ outlined_point_answer_with net w h outline p q short
  refused_point e k =
      refused_answer (outlined_point_refusal net w h outline p q short) (surface_point net w h p q) (refused_first e k) k

  pub plain_point : {n : ℕ} → n ≡ first_fault (point_faults net w h outline p q) → n ≡ 0 → {outcome : ℕ × List ℤ} →
      outcome ≡ point_answer_with net w h p q short → outcome ≡ outlined_point_answer_with net w h outline p q short
  plain_point e z f =
      let same = refusal_is e z in
      f ∙ (λ t. (same t, cond (accepted (same t)) (surface_point net w h p q) []))

  -- and a viewer's point
  pub refused_view : {n : ℕ} → n ≡ first_fault (point_faults net w h outline p q) → (n ≡ 0 → ⊥) →
      (n, []) ≡ outlined_view_answer_with net w h outline p q short
  refused_view e k =
      refused_answer (outlined_point_refusal net w h outline p q short) (view_point net w h p q) (refused_first e k) k

  pub plain_view : {n : ℕ} → n ≡ first_fault (point_faults net w h outline p q) → n ≡ 0 → {outcome : ℕ × List Float} →
      outcome ≡ view_answer_with net w h p q short → outcome ≡ outlined_view_answer_with net w h outline p q short
  plain_view e z f =
      let same = refusal_is e z in
      f ∙ (λ t. (same t, cond (accepted (same t)) (view_point net w h p q) []))

  -- and an output lent for it is long enough where nothing is refused
  pub point_fits : outlined_point_refusal net w h outline p q short ≡ 0 → short ≡ false
  point_fits e =
      let rows =
      none_clear (point_faults net w h outline p q ++ last_rows)
      (lit< tt, (lit< tt, (lit< tt, (lit< tt, (lit< tt, (lit< tt, (lit< tt, tt))))))) e in
      rows.1.1.1.1.1.0

module _ (net : List ℤ) (w h : ℕ) (outline : List ℕ) (i j down : ℕ) where
  abbrev last_net_rows : ℕ → List Fault
  last_net_rows room = (ltb room 57, 5) ∷ (triangle_beyond net w (triangle_by i j down), 3) ∷ []

  pub plain_net_rows : Clear (bezier_faults net w h outline i j down) → (room : ℕ) →
      bezier_refusal net w h i j (eqb down 1) room ≡ outlined_bezier_refusal net w h outline i j down room
  plain_net_rows k room =
      past (plain_faults net w h i j) (bezier_faults net w h outline i j down) (last_net_rows room)
      (clear_plain_net net w h outline i j down k) k

  -- answer and output of a Bézier net that a row before 5 refuses, and of one that none of them does
  pub refused_net : {n : ℕ} (out : List ℤ) → n ≡ first_fault (bezier_faults net w h outline i j down) → (n ≡ 0 → ⊥) →
      (◌≡◌ {A = ℕ × Bool} (n, false) (outlined_bezier_answer net w h outline i j down (length out)))
      × (out ≡ outlined_bezier_output net w h outline i j down out)
  unfolding outlined_bezier_output
  refused_net {n} out e k =
      let r = outlined_bezier_refusal net w h outline i j down (length out) in
      let same : n ≡ r =
      e ∙ fault_before (bezier_faults net w h outline i j down) (last_net_rows (length out)) (λ z. k (e ∙ z)) in
      (not_carried_out r same k, when_refused r (over (bezier_numbers net w (triangle_by i j down)) out) out (λ z. k (same ∙ z)))

  pub plain_net : {n : ℕ} (out : List ℤ) {outcome : ℕ × Bool} {after : List ℤ} →
      n ≡ first_fault (bezier_faults net w h outline i j down) → n ≡ 0 →
      outcome ≡ bezier_answer net w h i j (eqb down 1) (length out) →
      after ≡ bezier_output net w h i j (eqb down 1) out →
      (outcome ≡ outlined_bezier_answer net w h outline i j down (length out))
      × (after ≡ outlined_bezier_output net w h outline i j down out)
  unfolding bezier_output outlined_bezier_output
  plain_net out e z f g =
      let same = plain_net_rows (clear_bezier net w h outline i j down e z) (length out) in (
        f ∙ (λ t. (same t, accepted (same t))),
        g ∙ ap (λ (r : ℕ). output_after r (bezier_numbers net w (triangle_by i j down)) out) same,
      )
