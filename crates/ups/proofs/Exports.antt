-- From the calls' answers to the exported numbers and outputs.
use mathlib.Core.Path.{◌≡◌, refl, sym, ap, subst, ◌∙◌}
use mathlib.Core.Bool.{Bool, true, false, cond, ◌||◌}
use mathlib.Core.List.{List, [], ◌∷◌}
use Prim.Native.Nat.{ℕ, ◌≤◌, ◌<◌, ◌^◌}
use lib.Dec.{ltb, eqb, lit<}
use lib.IntN.{ℤ}
use lib.ListN.{length, take, set}
use lib.Seq.{sets}
use lib.Signed.{mag}
use mir.Val.{to_z, of_z}
use mir.Syntax.{w32}
use borrow.Author.Tests.{ltb-false}
use Rattle.exact.specs.Filling.{over}
use Rattle.exact.proofs.FillingLaws.{sets_over, take_over}
use Rattle.exact.proofs.SignedCode.{reads_back}
use Rattle.net.specs.Net.{triangle_at}
use Rattle.net.specs.Refusals.{Fault, bad_size, short_net, accepted, output_after}
use Rattle.net.proofs.Faults.{or_second, answered, not_accepted, cond_true, cond_false, when_refused}
use Rattle.triangles.specs.Refusals.{triangle_beyond}
use Rattle.bezier.specs.BezierNet.{bezier_numbers}
use Rattle.bezier.specs.Answers.{bezier_output}
use Rattle.bezier.specs.Refusals.{no_triangle, bezier_refusal}
use Rattle.surface.proofs.SurfacePoints.{point_fits}
use Rattle.outlined_points.specs.Refusals.{triangle_by, outlined_bezier_refusal}
use Rattle.outlined_points.specs.Answers.{outlined_bezier_output}
use Rattle.outlined_points.proofs.Answers as outlined
use Rattle.refine.proofs.CallLaws.{Left}
use Rattle.refined_points.specs.DemandThree.{Claimed}
use Rattle.seam.specs.Answers.{seam_points, SeamHolds}
use Rattle.seam.specs.Contract.{SeamLeft}
use Rattle.seam.proofs.CallLaws.{Ensured, rooms}
use Rattle.outlined_refine.specs.Answers.{OutlinedLeft}
use Rattle.ups.specs.Exports.{bezier_export, point_export, seam_export, outlined_point_export}

-- a test that is joined by one that fails
or_false : (a : Bool) {b : Bool} → b ≡ false → a ≡ (a || b)
or_false true e = refl
or_false false e = sym e

-- `down` is 0 or 1: the Bézier net's own refusals
pub bezier_export_lem : (net : List ℤ) (w h i j down room : ℕ) → ltb 1 down ≡ false →
    bezier_refusal net w h i j (eqb down 1) room ≡ bezier_export net w h i j down room
bezier_export_lem net w h i j down room e =
    ap
    (λ (t : Bool). cond (bad_size w h) 1
    (cond t 6 (cond (short_net net w h) 2
    (cond (ltb room 57) 5 (cond (triangle_beyond net w (triangle_at i j (eqb down 1))) 3 0)))))
    (or_false (no_triangle w h i j) e)

-- another number is no triangle
pub no_kind : (net : List ℤ) (w h i j down room : ℕ) → bad_size w h ≡ false → ltb 1 down ≡ true →
    6 ≡ bezier_export net w h i j down room
no_kind net w h i j down room e₁ e₆ =
    cond_false (bad_size w h) _ _ e₁ (cond_true _ 6 _ (or_second (no_triangle w h i j) _ e₆))

-- what the Bézier net's answer and output are to the export
pub bezier_outcome_lem : (net : List ℤ) (w h i j down : ℕ) (out : List ℤ) {n : ℕ} {l : List ℤ} → ltb 1 down ≡ false →
    n ≡ bezier_refusal net w h i j (eqb down 1) (length out) → l ≡ bezier_output net w h i j (eqb down 1) out →
    (n ≡ bezier_export net w h i j down (length out))
    × (l ≡ output_after n (bezier_numbers net w (triangle_at i j (eqb down 1))) out)
unfolding bezier_output
bezier_outcome_lem net w h i j down out e k q = (
  k ∙ bezier_export_lem net w h i j down (length out) e,
  q ∙ ap (λ (m : ℕ). output_after m (bezier_numbers net w (triangle_at i j (eqb down 1))) out) (sym k),
)

-- and with an outline
pub outlined_bezier_outcome : (net : List ℤ) (w h : ℕ) (outline : List ℕ) (i j down : ℕ) (out : List ℤ) {n : ℕ}
    {l : List ℤ} → n ≡ outlined_bezier_refusal net w h outline i j down (length out) →
    l ≡ outlined_bezier_output net w h outline i j down out →
    (n ≡ outlined_bezier_refusal net w h outline i j down (length out))
    × (l ≡ output_after n (bezier_numbers net w (triangle_by i j down)) out)
unfolding outlined_bezier_output
outlined_bezier_outcome net w h outline i j down out k q =
    (k, q ∙ ap (λ (m : ℕ). output_after m (bezier_numbers net w (triangle_by i j down)) out) (sym k))

-- there is room for a point where nothing is refused
pub point_room : (net : List ℤ) (w h p q room : ℕ) → point_export net w h p q room ≡ 0 → 3 ≤ room
point_room net w h p q room none = ltb-false room 3 (point_fits net w h p q (ltb room 3) none)

-- and with an outline
pub outlined_point_room : (net : List ℤ) (w h : ℕ) (outline : List ℕ) (p q room : ℕ) →
    outlined_point_export net w h outline p q room ≡ 0 → 3 ≤ room
outlined_point_room net w h outline p q room none =
    ltb-false room 3 (outlined.point_fits net w h outline p q (ltb room 3) none)

-- three coordinates, out of the bits that hold them, over the front of an output
pub stored_point : (x y z : ℤ) (out : List ℤ) {after : List ℤ} → mag x < 2 ^ 31 → mag y < 2 ^ 31 → mag z < 2 ^ 31 →
    3 ≤ length out →
    after ≡ set (set (set out 0 (to_z w32 (of_z w32 x))) 1 (to_z w32 (of_z w32 y))) 2 (to_z w32 (of_z w32 z)) →
    after ≡ over (x ∷ y ∷ z ∷ []) out
stored_point x y z out f g h room e =
    e ∙ (λ t. set (set (set out 0 (reads_back w32 x f t)) 1 (reads_back w32 y g t)) 2 (reads_back w32 z h t))
    ∙ sets_over (x ∷ y ∷ z ∷ []) out room

-- an answer whose values go into an output: what the export answers, and what stands in the output
module _ {A : Type 0} (r : ℕ) (values out : List A) where
  pub point_exported : {l after : List A} → ◌≡◌ {A = ℕ × List A} (0, l) (r, cond (accepted r) values []) →
      after ≡ over l out → (0 ≡ r) × (after ≡ output_after 0 values out)
  point_exported e stored =
      let outcome = answered r values e in
      (sym outcome.0, stored ∙ ap (λ (l : List A). over l out) outcome.1)

  pub point_refused : {n : ℕ} → 0 < length values →
      ◌≡◌ {A = ℕ × List A} (n, []) (r, cond (accepted r) values []) → (n ≡ r) × (out ≡ output_after n values out)
  point_refused {n} some e =
      let same : n ≡ r = λ t. (e t).0 in
      (same, when_refused n (over values out) out (λ z. not_accepted r values some e (sym same ∙ z)))

-- an answer with values that go into an output of their own: what the export answers, and what stands in its two
-- outputs
module _ {A : Type 0} (r : ℕ) (values counts : List ℕ) (result out : List A) where
  pub exported : {l m : List ℕ} {o : List A} → ◌≡◌ {A = ℕ × List ℕ} (0, l) (r, cond (accepted r) values []) →
      length values ≤ length counts →
      m ≡ sets counts 0 l → o ≡ output_after r result out →
      (0 ≡ r) × ((o ≡ output_after 0 result out) × (m ≡ output_after 0 values counts))
  exported e room f g =
      let outcome = answered r values e in (
        sym outcome.0,
        (
          g ∙ ap (λ (n : ℕ). output_after n result out) outcome.0,
          f ∙ ap (sets counts 0) outcome.1
              ∙ sets_over values counts room,
        ),
      )

  pub not_exported : {n : ℕ} {o : List A} → 0 < length values →
      ◌≡◌ {A = ℕ × List ℕ} (n, []) (r, cond (accepted r) values []) → o ≡ output_after r result out →
      (n ≡ r) × ((o ≡ output_after n result out) × (counts ≡ output_after n values counts))
  not_exported {n} some e g =
      let same : n ≡ r = λ t. (e t).0 in
      let there = not_accepted r values some e in (
        same,
        (
          g ∙ ap (λ (k : ℕ). output_after k result out) (sym same),
          when_refused n (over values counts) counts
              (λ z. there (sym same ∙ z)),
        ),
      )

-- a number that is the call's, and what stands in the output and the scratch of refining by it
pub left_exported : (r k w h : ℕ) (result out scratch out' scratch' : List ℤ) {n : ℕ} → n ≡ r →
    Left r k w h result out scratch out' scratch' →
    (n ≡ r) × Left n k w h result out scratch out' scratch'
left_exported r k w h result out scratch out' scratch' e l =
    (e, subst (λ (m : ℕ). Left m k w h result out scratch out' scratch') (sym e) l)

-- the same with an outline
pub outlined_left : (r : ℕ) (before : List Fault) (net : List ℤ) (w h k : ℕ) (outline : List ℕ) (out scratch : List ℤ)
    (fine search : List ℕ) (out' scratch' : List ℤ) (fine' search' : List ℕ) {n : ℕ} → n ≡ r →
    OutlinedLeft r before net w h k outline out scratch fine search out' scratch' fine' search' →
    (n ≡ r) × OutlinedLeft n before net w h k outline out scratch fine search out' scratch' fine' search'
outlined_left r before net w h k outline out scratch fine search out' scratch' fine' search' e l =
    (e, subst (λ (m : ℕ). OutlinedLeft m before net w h k outline out scratch fine search out' scratch' fine' search') (sym e) l)

-- demand 3 of the numbers that an accepted call left in the point's output
pub claimed_exported : (net : List ℤ) (w h k p q : ℕ) {r : ℕ} {outcome : ℕ × List ℤ}
    (values out : List ℤ) {after : List ℤ} →
    Claimed net w h k p q outcome → outcome ≡ (r, values) → length values ≡ 3 → after ≡ over values out →
    Claimed net w h k p q (r, take 3 after)
claimed_exported net w h k p q {r} values out {after} claim e three left =
    let front : values ≡ take 3 after = sym (take_over values out) ∙ (λ t. take (three t) (over values out))
    ∙ sym (ap (take 3) left) in
    subst (Claimed net w h k p q) (e ∙ (λ t. (r, front t))) claim

-- the two points of a seam, from the outcome of the call: what the export answers, leaves and promises
module _ (net : List ℤ) (w h k l p q p2 q2 : ℕ) (out scratch out2 scratch2 points out' scratch' out2' scratch2' : List ℤ) where
  abbrev seam_number : ℕ
  seam_number = seam_export net w h k l p q p2 q2 out scratch out2 scratch2 points

  abbrev seam_values : List ℤ
  seam_values = seam_points net w h k l p q p2 q2

  abbrev SeamExported : ℕ → List ℤ → Type 0
  SeamExported n after =
      (n ≡ seam_number)
      × (SeamLeft n net w h k l out scratch out2 scratch2 out' scratch' out2' scratch2'
      × ((after ≡ output_after n seam_values points) × (n ≡ 0 → SeamHolds net w h k l p q p2 q2 n after)))

  -- what the call ensures, where room for fewer than six numbers is another output that is too short
  abbrev pub Outcome : ℕ × List ℤ → Type 0
  Outcome =
      Ensured net w h k l p q p2 q2 (ltb (length points) 6) out scratch out2 scratch2 out' scratch' out2' scratch2'

  -- there is room for the points where nothing is refused
  pub seam_room : {six : List ℤ} → Outcome (0, six) → 6 ≤ length points
  seam_room {six} e =
      ltb-false (length points) 6
      (rooms net w h k l p q p2 q2 (ltb (length points) 6) out scratch out2 scratch2
      (answered seam_number seam_values e.0).0).0

  pub seam_accepted : {six after : List ℤ} → Outcome (0, six) → after ≡ over six points → SeamExported 0 after
  unfolding over
  seam_accepted {six} {after} e stored =
      let known = answered seam_number seam_values e.0 in
      let left : after ≡ over seam_values points = stored ∙ (λ t. over (known.1 t) points) in (
        sym known.0,
        (
          e.1.0,
          (
            left,
            λ z. subst (SeamHolds net w h k l p q p2 q2 0) (sym left)
                (subst (SeamHolds net w h k l p q p2 q2 0) known.1 (e.1.1 refl)),
          ),
        ),
      )

  pub seam_refused : {n : ℕ} → Outcome (n, []) → SeamExported n points
  seam_refused {n} e =
      let refused = point_refused seam_number seam_values points (lit< tt) e.0 in
      let there = not_accepted seam_number seam_values (lit< tt) e.0 in
      (refused.0, (e.1.0, (refused.1, λ z. absurd (there (sym refused.0 ∙ z)))))

-- an output by the number that was answered
pub output_by : (result out : List ℤ) {n r : ℕ} {l : List ℤ} → n ≡ r → l ≡ output_after r result out →
    l ≡ output_after n result out
output_by result out e q = q ∙ ap (λ (m : ℕ). output_after m result out) (sym e)
