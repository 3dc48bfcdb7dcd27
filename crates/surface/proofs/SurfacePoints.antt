-- Surface points: from what the code found to the definition, the precondition of the evaluation, and the answers.
use mathlib.Core.Path.{◌≡◌, refl, sym, ap, subst, ◌∙◌}
use mathlib.Core.Bool.{false, Bool, true, cond}
use mathlib.Core.List.{List, [], ◌∷◌, map}
use Prim.Native.Nat.{ℕ, ◌+◌, ◌-◌, ◌*◌, ◌≤◌, ◌<◌}
use native.Mathlib.Omega.{arith}
use lib.Dec.{ltb, lit<}
use lib.IntN.{ℤ, pos}
use lib.ListN.{get_or}
use borrow.Author.Tests.{ltb-true, ltb-false}
use Rattle.exact.specs.Rounding.{rounded}
use Rattle.exact.specs.WeightedSum.{Within}
use Rattle.net.specs.Refusals.{bad_size, short_net, accepted}
use Rattle.net.specs.Net.{Index, one, two, three, field}
use Rattle.net.proofs.Faults.{cond_false, fault_none, fault_before, accepted_answer, refused_answer}
use Rattle.places.specs.Places.{cell, Order, o123, o132, o213, o231, o312, o321, corner_p, corner_q, corner_t, order_of, chosen, share, gap_a, gap_b, gap_g, is_down, rest, up_share, down_share}
use Rattle.places.specs.Refusals.{no_place}
use Rattle.places.specs.Located.{place_refusal, shares, InOrder}
use Rattle.places.proofs.Cells.{in_cells, cells_in_grid}
use Rattle.places.proofs.Orders.{Sorted, in_order_lem}
use Rattle.triangles.specs.Corners.{InNet, corner_controls, values_in, reordered_controls}
use Rattle.triangles.specs.BezierPoints.{controls_of}
use Rattle.triangles.specs.Refusals.{triangle_beyond}
use Rattle.triangles.proofs.Corners.{in_net_lem, value_size}
use Rattle.triangles.proofs.CornerForm.{in_form, arranged, form_values, loaded_form, form_within}
use Rattle.spline.specs.Spline.{spline}
use Rattle.de_casteljau.specs.declared.points.Corner.{Corner}
use Rattle.de_casteljau.specs.declared.points.Ordinates.{Ordinates}
use Rattle.de_casteljau.specs.Ordinates.{ordinates}
use Rattle.de_casteljau.specs.Averages.{last_average}
use Rattle.surface.specs.SurfacePoint.{coordinate, surface_point}
use Rattle.surface.specs.Refusals.{point_refusal_with}
use Rattle.surface.specs.Answers.{point_answer_with, view_answer_with, view_point, millimetres}
use Rattle.surface.specs.Evaluation.{evaluated, Evaluable}
use Rattle.surface.specs.Promises.{GapsWhole}
use Rattle.surface.proofs.Evaluation.{last_is_exact}
use Rattle.surface.proofs.Accepted.{on_the_grid}

pub in_net_place : (net : List ℤ) (w h p q : ℕ) → bad_size w h ≡ false → no_place 1024 w h p q ≡ false →
    short_net net w h ≡ false →
    InNet net w (cell 1024 w p) (cell 1024 h q)
in_net_place net w h p q e₁ e₆ e₂ = in_net_lem net e₁ e₂ (cells_in_grid w h p q e₁ e₆)

-- ---- from what the code found to the definition

-- three shares by corner are the shares of the place
shares_are : (s : Index → ℕ) {a b d : ℕ} → a ≡ s one → b ≡ s two → d ≡ s three → shares a b d ≡ s
shares_are s {a} {b} {d} e f g = λ t k. at k t
  where
    at : (k : Index) → shares a b d k ≡ s k
    at one = e
    at two = f
    at three = g

pub in_order_of : (s : Index → ℕ) {a b d : ℕ} → a ≡ s one → b ≡ s two → d ≡ s three →
    {P Q T : ℕ} {ahead : Bool} {A B G : ℕ} →
    InOrder (order_of (shares a b d)) (shares a b d) P Q T ahead A B G → InOrder (order_of s) s P Q T ahead A B G
in_order_of s e f g {P} {Q} {T} {ahead} {A} {B} {G} i =
    subst (λ (l : Index → ℕ). InOrder (order_of l) l P Q T ahead A B G) (shares_are s e f g) i

-- the control triangles that the code evaluates: reordered, and arranged by the order of the shares
pub prepared : (net : List ℤ)
    (w h p q : ℕ) {down : Bool} {c : List (List (List ℤ))} {P Q T : ℕ} {ahead : Bool} {A B G : ℕ} →
    down ≡ (chosen 1024 w h p q).down → c ≡ corner_controls net w (chosen 1024 w h p q) →
    InOrder (order_of (share 1024 w h p q)) (share 1024 w h p q) P Q T ahead A B G →
    (x : ℕ) → values_in (arranged P Q T (reordered_controls down c)) x
    ≡ in_form (chosen 1024 w h p q).down (controls_of (field net w x) (chosen 1024 w h p q))
    (order_of (share 1024 w h p q))
prepared net w h p q ek ec i x =
    let t = chosen 1024 w h p q in
    (λ k. values_in (arranged (i.first_corner k) (i.second_corner k) (i.last_corner k)
    (reordered_controls (ek k) (ec k))) x)
    ∙ form_values t.down (order_of (share 1024 w h p q)) (corner_controls net w t) x
    ∙ loaded_form net w t t.down (order_of (share 1024 w h p q)) x

-- the six points of nine values in a list
abbrev corner_at : List ℤ → ℕ → Corner
corner_at l i = record { k = get_or l i (pos 0); n = get_or l (i + 1) (pos 0); m = get_or l (i + 2) (pos 0) }

abbrev ordinates_at : Bool → List ℤ → Ordinates
ordinates_at ahead l = ordinates ahead (corner_at l 0) (corner_at l 3) (corner_at l 6)

-- the evaluated point is the surface point
pub evaluated_coordinate : (net : List ℤ)
    (w h p q x : ℕ) {down : Bool} {c : List (List (List ℤ))} {P Q T : ℕ} {ahead : Bool} {A B G : ℕ} →
    down ≡ (chosen 1024 w h p q).down → c ≡ corner_controls net w (chosen 1024 w h p q) →
    InOrder (order_of (share 1024 w h p q)) (share 1024 w h p q) P Q T ahead A B G →
    evaluated ahead A B G (arranged P Q T (reordered_controls down c)) x ≡ coordinate net w h p q x
unfolding coordinate spline
evaluated_coordinate net w h p q x ek ec i =
    let t = chosen 1024 w h p q in
    let s = share 1024 w h p q in
    let o = order_of s in
    let values = prepared net w h p q ek ec i x in
    (λ k. rounded (last_average (i.first k) (i.second k) (i.last k) (ordinates_at (i.direction k) (values k))) 37748736)
    ∙ ap (λ (z : ℤ). rounded z 37748736)
    (last_is_exact t.down (controls_of (field net w x) t) o (gap_a o s) (gap_b o s) (gap_g o s))

-- ---- answers

module _ (net : List ℤ) (w h p q : ℕ) (short : Bool) where
  pub refused_point : {n : ℕ} → n ≡ point_refusal_with net w h p q short → (n ≡ 0 → ⊥) →
      (n, []) ≡ point_answer_with net w h p q short
  refused_point = refused_answer (point_refusal_with net w h p q short) (surface_point net w h p q)

  pub accepted_point : 0 ≡ point_refusal_with net w h p q short → {x y z : ℤ} →
      x ≡ coordinate net w h p q 0 → y ≡ coordinate net w h p q 1 → z ≡ coordinate net w h p q 2 →
      (0, x ∷ y ∷ z ∷ []) ≡ point_answer_with net w h p q short
  accepted_point e ex ey ez =
      accepted_answer (point_refusal_with net w h p q short) (surface_point net w h p q) (sym e)
      (λ k. ex k ∷ ey k ∷ ez k ∷ [])

-- the viewer's answer is the surface point's, coordinate by coordinate
pub viewed : (net : List ℤ) (w h p q : ℕ) (short : Bool) {outcome : ℕ × List ℤ} →
    outcome ≡ point_answer_with net w h p q short →
    (outcome.0, map millimetres outcome.1) ≡ view_answer_with net w h p q short
viewed net w h p q short e =
    (λ t. ((e t).0, map millimetres (e t).1))
    ∙ (λ t. (point_refusal_with net w h p q short, at (accepted (point_refusal_with net w h p q short)) t))
  where
    at : (b : Bool) → map millimetres (cond b (surface_point net w h p q) []) ≡ cond b (view_point net w h p q) []
    at true = refl
    at false = refl

-- what is known where 1, 6 and 2 do not refuse
pub record GoodPlace (net : List ℤ) (w h p q : ℕ) : Type 0 where
  pub size : bad_size w h ≡ false
  pub place : no_place 1024 w h p q ≡ false
  pub long : short_net net w h ≡ false

pub good_place : (net : List ℤ) (w h p q : ℕ) → place_refusal net w h p q ≡ 0 → GoodPlace net w h p q
good_place net w h p q e =
    let e₁ = fault_none (bad_size w h) 1 _ (lit< tt) e in
    let e₆ = fault_none (no_place 1024 w h p q) 6 _ (lit< tt) e₁.1 in
    let e₂ = fault_none (short_net net w h) 2 _ (lit< tt) e₆.1 in
    record { size = e₁.0; place = e₆.0; long = e₂.0 }

-- a place that 1, 6 or 2 refuses, one that only 5 or 3 can refuse, and one that only 3 can
pub refused_place : (net : List ℤ) (w h p q : ℕ) (short : Bool) → (place_refusal net w h p q ≡ 0 → ⊥) →
    place_refusal net w h p q ≡ point_refusal_with net w h p q short
refused_place net w h p q short k =
    fault_before
    ((bad_size w h, 1) ∷ (no_place 1024 w h p q, 6) ∷ (short_net net w h, 2) ∷ [])
    ((short, 5) ∷ (triangle_beyond net w (chosen 1024 w h p q), 3) ∷ [])
    k

pub room_refusal : (net : List ℤ) (w h p q : ℕ) (short : Bool) → GoodPlace net w h p q → {n : ℕ} →
    n ≡ cond short 5 (cond (triangle_beyond net w (chosen 1024 w h p q)) 3 0) →
    n ≡ point_refusal_with net w h p q short
room_refusal net w h p q short g {n} e =
    cond_false _ 1 _ g.size (cond_false _ 6 _ g.place (cond_false _ 2 _ g.long e))

pub range_refusal : (net : List ℤ) (w h p q : ℕ) (short : Bool) → GoodPlace net w h p q → short ≡ false → {n : ℕ} →
    n ≡ cond (triangle_beyond net w (chosen 1024 w h p q)) 3 0 → n ≡ point_refusal_with net w h p q short
range_refusal net w h p q short g e₅ {n} e = room_refusal net w h p q short g (cond_false short 5 _ e₅ e)

-- where nothing is refused, the output is long enough
pub point_fits : (net : List ℤ) (w h p q : ℕ) (short : Bool) → point_refusal_with net w h p q short ≡ 0 → short ≡ false
point_fits net w h p q short e =
    let e₁ = fault_none (bad_size w h) 1 _ (lit< tt) e in
    let e₆ = fault_none (no_place 1024 w h p q) 6 _ (lit< tt) e₁.1 in
    let e₂ = fault_none (short_net net w h) 2 _ (lit< tt) e₆.1 in
    (fault_none short 5 _ (lit< tt) e₂.1).0

-- ---- the precondition of the evaluation

-- the shares of a place are at most 1,024 each, and 1,024 together
share_at_lem : (b : Bool) (f g : ℕ) → f ≤ 1024 → g ≤ 1024 → (k : Index) →
    (cond b (down_share 1024 f g) (up_share 1024 f g)) k ≤ 1024
share_at_lem true f g a b one = omega arith
share_at_lem true f g a b two = omega arith
share_at_lem true f g a b three = omega (arith, a, b)
share_at_lem false f g a b one = omega arith
share_at_lem false f g a b two = a
share_at_lem false f g a b three = b

shares_at : (b : Bool) (f g : ℕ) → f ≤ 1024 → g ≤ 1024 → ltb 1024 (f + g) ≡ b →
    (let s = cond b (down_share 1024 f g) (up_share 1024 f g) in s one + s two + s three ≡ 1024)
shares_at true f g a b e = omega (arith, a, b, ltb-true 1024 (f + g) e)
shares_at false f g a b e = omega (arith, ltb-false 1024 (f + g) e)

pub share_small : (w h p q : ℕ) → bad_size w h ≡ false → no_place 1024 w h p q ≡ false → (k : Index) →
    share 1024 w h p q k ≤ 1024
share_small w h p q e f k =
    let i = in_cells w h p q e f in
    share_at_lem (is_down 1024 (rest 1024 w p) (rest 1024 h q)) (rest 1024 w p) (rest 1024 h q) i.0.left i.1.left k

pub shares_sum : (w h p q : ℕ) → bad_size w h ≡ false → no_place 1024 w h p q ≡ false →
    share 1024 w h p q one + share 1024 w h p q two + share 1024 w h p q three ≡ 1024
shares_sum w h p q e f =
    let i = in_cells w h p q e f in
    shares_at (is_down 1024 (rest 1024 w p) (rest 1024 h q)) (rest 1024 w p) (rest 1024 h q) i.0.left
    i.1.left refl

-- A, B and G add up to the shares
in_any_order : (a : Index → ℕ) (o : Order) → a (corner_p o) + a (corner_q o) + a (corner_t o) ≡ a one + a two + a three
in_any_order a o123 = omega arith
in_any_order a o132 = omega arith
in_any_order a o213 = omega arith
in_any_order a o231 = omega arith
in_any_order a o312 = omega arith
in_any_order a o321 = omega arith

gaps_sum : (a : Index → ℕ) → (let o = order_of a in gap_a o a + gap_b o a + gap_g o a ≡ a one + a two + a three)
unfolding Sorted
gaps_sum a =
    let o = order_of a in
    let sorted = in_order_lem a in
    added (a (corner_p o)) (a (corner_q o)) (a (corner_t o)) sorted.0 sorted.1 ∙ in_any_order a o
  where
    added : (x y z : ℕ) → y ≤ x → z ≤ y → (x - y) + 2 * (y - z) + 3 * z ≡ x + y + z
    added x y z a b = omega (arith, a, b)

pub gaps_whole : GapsWhole
gaps_whole w h p q e g = gaps_sum (share 1024 w h p q) ∙ shares_sum w h p q e (on_the_grid 1024 w h p q g)

pub evaluable : (net : List ℤ) (w h p q : ℕ) → GoodPlace net w h p q →
    triangle_beyond net w (chosen 1024 w h p q) ≡ false →
    {down : Bool} {c : List (List (List ℤ))} {P Q T : ℕ} {ahead : Bool} {A B G : ℕ} →
    down ≡ (chosen 1024 w h p q).down → c ≡ corner_controls net w (chosen 1024 w h p q) →
    InOrder (order_of (share 1024 w h p q)) (share 1024 w h p q) P Q T ahead A B G →
    Evaluable A B G (arranged P Q T (reordered_controls down c))
evaluable net w h p q g b {down} {c} {P} {Q} {T} ek ec i =
    let t = chosen 1024 w h p q in
    let s = share 1024 w h p q in
    let lies = in_net_place net w h p q g.size g.place g.long in
    record {
      gaps = omega (arith, i.first, i.second, i.last, gaps_sum s, shares_sum w h p q g.size g.place);
      within = λ x k. subst (Within 16777216) (sym (prepared net w h p q ek ec i x))
          (form_within 16777216 t.down (controls_of (field net w x) t) (order_of s)
          (value_size net w t.column t.row t.down lies b x k));
    }
