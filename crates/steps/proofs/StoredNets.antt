-- Where the numbers of a stored net stand, and that one refinement looks only at vertices of the net.
use mathlib.Core.Path.{◌≡◌, refl, sym, ap, ◌∙◌}
use mathlib.Core.Bool.{Bool, true, false}
use mathlib.Core.List.{List, [], ◌∷◌, ◌++◌}
use Prim.Native.Nat.{ℕ, zero, suc, ◌+◌, ◌*◌, ◌/◌, ◌≤◌, ◌<◌}
use native.Mathlib.Omega.{arith}
use lib.Dec.{lit<}
use lib.IntN.{ℤ, pos, nat_abs}
use lib.ListN.{length, take, drop, length-take, length-drop, get_or-append}
use lib.Seq.{get_or-take, get_or-drop, take_all}
use borrow.Author.Tests.{ltb-true, le-ltb}
use Rattle.exact.specs.Rounding.{rounded}
use Rattle.exact.specs.WeightedSum.{weighted_sum}
use Rattle.exact.specs.Filling.{over, runs}
use Rattle.exact.proofs.FillingLaws.{array_elements}
use Rattle.net.specs.Net.{Index, one, two, three, rank, Vertex, vertex_at, vertex_of, Field, numbers, start, vertex_numbers, number, entry, field, stride, point_stride}
use Rattle.net.specs.Refusals.{net_limit, beyond, any_beyond, net_beyond}
use Rattle.net.proofs.Faults.{or_no}
use Rattle.net.proofs.Grids.{grid_length, grid_number, grid_same, grid_of_parts, grid_by_number, any_grid}
use Rattle.net.proofs.Ranges.{any_append}
use Rattle.net.proofs.Places.{vertex_ends, field_number, within_record}
use Rattle.subdivision.specs.Refinement.{Kind, kept, along, refined_side, side_after, is_odd, kind_by, begin_by, end_by, refinement, steps, refinements}
use Rattle.subdivision.specs.WeightTable.{Table, kind_number, weights_at, passes, six, exact_by, refined_by, weights, weights_pass}
use Rattle.subdivision.proofs.Means.{kept_alone}
use Rattle.subdivision.proofs.Tables.{our_refinement}
use Rattle.bounds.proofs.Distance.{our_nets}
use Rattle.steps.specs.RefinedNet.{Fields, point_at, triangle_of, vertex_run, stored, refined_net}

-- ---- the numbers of a stored net

pub stored_length : (F : Fields) (w h : ℕ) → length (stored F w h) ≡ numbers w h
unfolding stored
stored_length F = grid_length stride (vertex_run F) (λ v. refl)

stored_number : (F : Fields) (w h i j r : ℕ) → i < w → j < h → r < stride →
    number (stored F w h) (start w (vertex_at i j) + r) ≡ number (vertex_run F (vertex_at i j)) r
unfolding stored
stored_number F = grid_number stride (vertex_run F) (λ v. refl)

run_number : (F : Fields) (v : Vertex) (l : Index) (x : ℕ) → x < 3 →
    number (vertex_run F v) (point_stride * rank l + x) ≡ F x v l
run_number F v one zero h = refl
run_number F v one (suc zero) h = refl
run_number F v one (suc (suc zero)) h = refl
run_number F v two zero h = refl
run_number F v two (suc zero) h = refl
run_number F v two (suc (suc zero)) h = refl
run_number F v three zero h = refl
run_number F v three (suc zero) h = refl
run_number F v three (suc (suc zero)) h = refl
run_number F v l (suc (suc (suc x))) h = absurd (omega (arith, h))

-- the field of a slice that begins with a stored net
pub stored_field : (F : Fields) (w h : ℕ) (old : List ℤ) (i j : ℕ) → i < w → j < h → (l : Index) (x : ℕ) → x < 3 →
    field (over (stored F w h) old) w x (vertex_at i j) l ≡ F x (vertex_at i j) l
unfolding over
stored_field F w h old i j a b l x c =
    let at = start w (vertex_at i j) + (point_stride * rank l + x) in
    let ends = vertex_ends {w = w} {h = h} {i = i} {j = j} a b in
    let here : at < length (stored F w h) = omega (arith, ends, stored_length F w h, within_record l x c) in
    field_number (over (stored F w h) old) w (vertex_at i j) l x c
    ∙ get_or-append (stored F w h) (drop (length (stored F w h)) old) (pos 0) at here
    ∙ stored_number F w h i j (point_stride * rank l + x) a b (within_record l x c)
    ∙ run_number F (vertex_at i j) l x c

-- vertex by vertex
pub stored_by_number : (F : Fields) (w h : ℕ) → stored F w h ≡ runs (w * h) (λ n. vertex_run F (vertex_of w n))
unfolding stored
stored_by_number F w h = grid_by_number (vertex_run F) w h

-- ---- numbers in range

pub stored_beyond : (F : Fields) (w h : ℕ) →
    net_beyond (stored F w h) w h ≡ any_beyond (runs (w * h) (λ n. vertex_run F (vertex_of w n)))
unfolding net_beyond
stored_beyond F w h =
    ap any_beyond (take_all (numbers w h) (stored F w h) (omega (arith, stored_length F w h)) ∙ stored_by_number F w h)

pub stored_tested : (F : Fields) (w h : ℕ) → net_beyond (stored F w h) w h ≡ any_beyond (stored F w h)
unfolding net_beyond
stored_tested F w h = ap any_beyond (take_all (numbers w h) (stored F w h) (omega (arith, stored_length F w h)))

-- the nine numbers of a vertex, and all numbers of a stored net, in range
abbrev pub Fine : Fields → Vertex → Type 0
Fine F v = (x : ℕ) → x < 3 → (l : Index) → nat_abs (F x v l) ≤ 16777216

point_fine : (F : Fields) (v : Vertex) → Fine F v → (l : Index) → any_beyond (point_at F v l) ≡ false
point_fine F v f l =
    let fine : (x : ℕ) → x < 3 → beyond (F x v l) ≡ false = λ x c. le-ltb 16777216 (nat_abs (F x v l)) (f x c l) in
    sym (or_no _ _ (fine 0 (lit< tt)) (or_no _ _ (fine 1 (lit< tt)) (or_no _ _ (fine 2 (lit< tt)) refl)))

vertex_fine : (F : Fields) (v : Vertex) → Fine F v → any_beyond (vertex_run F v) ≡ false
vertex_fine F v f =
    any_append net_limit (point_at F v one ++ point_at F v two) (point_at F v three)
    ∙ sym (or_no _ _ (any_append net_limit (point_at F v one) (point_at F v two)
    ∙ sym (or_no _ _ (point_fine F v f one) (sym (point_fine F v f two)))) (sym (point_fine F v f three)))

pub stored_fine : (F : Fields) (w h : ℕ) → ((i j : ℕ) → i < w → j < h → Fine F (vertex_at i j)) →
    any_beyond (stored F w h) ≡ false
unfolding stored
stored_fine F w h f = any_grid net_limit (vertex_run F) w h (λ i j a b. vertex_fine F (vertex_at i j) (f i j a b))

-- ---- fields that agree on the net

abbrev pub Agree : ℕ → ℕ → Field → Field → Type 0
Agree w h F G = (i j : ℕ) → i < w → j < h → (l : Index) → F (vertex_at i j) l ≡ G (vertex_at i j) l

pub stored_same : (F G : Fields) (w h : ℕ) → ((x : ℕ) → x < 3 → Agree w h (F x) (G x)) → stored F w h ≡ stored G w h
unfolding stored
stored_same F G w h e =
    grid_same (vertex_run F) (vertex_run G) w h (λ i j a b.
    let point : (l : Index) → point_at F (vertex_at i j) l ≡ point_at G (vertex_at i j) l =
    λ l t. e 0 (lit< tt) i j a b l t ∷ e 1 (lit< tt) i j a b l t ∷ e 2 (lit< tt) i j a b l t ∷ [] in
    λ t. point one t ++ point two t ++ point three t)

-- a value that a table makes of the two ends of an edge
abbrev value_by : Table → Index → Kind → (Index → ℤ) → (Index → ℤ) → ℤ
value_by T l k u v = rounded (weighted_sum (weights_at T (kind_number k) l) (six u v)) 12

-- one refinement, by any table that passes, looks only at vertices of the net
pub refined_by_local : (T : Table) → passes T ≡ true → (F G : Field) (w h : ℕ) → Agree w h F G →
    Agree (refined_side w) (refined_side h) (refined_by T F) (refined_by T G)
unfolding refined_by exact_by
refined_by_local T p F G w h e i j a b l = by (is_odd i) (is_odd j) refl refl
  where
    by : (p q : Bool) → is_odd i ≡ p → is_odd j ≡ q →
        (let k = kind_by p q in
        value_by T l k (F (begin_by k (i / 2) (j / 2))) (F (end_by k (i / 2) (j / 2)))
        ≡ value_by T l k (G (begin_by k (i / 2) (j / 2))) (G (end_by k (i / 2) (j / 2))))
    by false false f g =
        let v = vertex_at (i / 2) (j / 2) in
        let u = vertex_at (i / 2 + 1) (j / 2) in
        (λ t. value_by T l kept (λ c. e (i / 2) (j / 2) (omega (arith, a)) (omega (arith, b)) c t) (F u))
        ∙ ap (λ (z : ℤ). rounded z 12) (kept_alone T p l (G v) (F u) (G u))
    by true false f g =
        let odd = ltb-true (2 * (i / 2)) i f in
        λ t. value_by T l (along one) (λ c. e (i / 2) (j / 2) (omega (arith, a)) (omega (arith, b)) c t)
        (λ c. e (i / 2 + 1) (j / 2) (omega (arith, a, odd)) (omega (arith, b)) c t)
    by true true f g =
        let odd = ltb-true (2 * (i / 2)) i f in
        let odd' = ltb-true (2 * (j / 2)) j g in
        λ t. value_by T l (along two) (λ c. e (i / 2 + 1) (j / 2) (omega (arith, a, odd)) (omega (arith, b)) c t)
        (λ c. e (i / 2) (j / 2 + 1) (omega (arith, a)) (omega (arith, b, odd')) c t)
    by false true f g =
        let odd = ltb-true (2 * (j / 2)) j g in
        λ t. value_by T l (along three) (λ c. e (i / 2) (j / 2 + 1) (omega (arith, a)) (omega (arith, b, odd)) c t)
        (λ c. e (i / 2) (j / 2) (omega (arith, a)) (omega (arith, b)) c t)

-- and so do k of them
pub steps_local : (T : Table) → passes T ≡ true → (k w h : ℕ) (F G : Field) → Agree w h F G →
    Agree (side_after k w) (side_after k h) (steps (refined_by T) k F) (steps (refined_by T) k G)
steps_local T p zero w h F G e = e
steps_local T p (suc k) w h F G e =
    refined_by_local T p (steps (refined_by T) k F) (steps (refined_by T) k G) (side_after k w) (side_after k h)
    (steps_local T p k w h F G e)

-- document 01's refinement is the one by our table
pub refinement_local : (F G : Field) (w h : ℕ) → Agree w h F G →
    Agree (refined_side w) (refined_side h) (refinement F) (refinement G)
refinement_local F G w h e i j a b l =
    (λ t. sym (our_refinement F) t (vertex_at i j) l)
    ∙ refined_by_local weights weights_pass F G w h e i j a b l
    ∙ (λ t. our_refinement G t (vertex_at i j) l)

-- ---- the refined net as it is stored

pub refined_length_lem : (net : List ℤ) (w h k : ℕ) →
    length (refined_net net w h k) ≡ numbers (side_after k w) (side_after k h)
unfolding refined_net
refined_length_lem net w h k = stored_length (λ x. refinements k (field net w x)) (side_after k w) (side_after k h)

-- no step: the net's own numbers
vertex_part_lem : (net : List ℤ) (w : ℕ) (v : Vertex) → start w v + stride ≤ length net →
    vertex_run (field net w) v ≡ vertex_numbers net w v
unfolding runs
vertex_part_lem net w v l =
    let part = vertex_numbers net w v in
    let long : length part ≡ stride =
    omega (arith, length-take stride (drop (start w v) net), length-drop (start w v) net, l) in
    let same : (k : Index) (x : ℕ) → x < 3 → field net w x v k ≡ number part (point_stride * rank k + x) =
    λ k x c. field_number net w v k x c
    ∙ sym (get_or-take stride (drop (start w v) net) (point_stride * rank k + x) (pos 0) (within_record k x c)
    ∙ get_or-drop (start w v) net (point_stride * rank k + x) (pos 0)) in
    let point : (k : Index) →
    point_at (field net w) v k ≡ point_at (λ x u m. number part (point_stride * rank m + x)) v k =
    λ k t. same k 0 (lit< tt) t ∷ same k 1 (lit< tt) t ∷ same k 2 (lit< tt) t ∷ [] in
    (λ t. point one t ++ point two t ++ point three t) ∙ array_elements (pos 0) part stride long

pub no_step : (net : List ℤ) (w h : ℕ) → numbers w h ≤ length net → refined_net net w h 0 ≡ take (numbers w h) net
unfolding refined_net stored
no_step net w h l =
    grid_same (vertex_run (field net w)) (vertex_numbers net w) w h
    (λ i j a b. vertex_part_lem net w (vertex_at i j) (omega (arith, vertex_ends {w = w} {h = h} {i = i} {j = j} a b, l)))
    ∙ grid_of_parts stride w h net

-- the net that k steps by a table make of a net, and ours
unfoldable pub net_by : Table → List ℤ → ℕ → ℕ → ℕ → List ℤ
net_by T net w h k = stored (λ x. steps (refined_by T) k (field net w x)) (side_after k w) (side_after k h)

pub our_net : (net : List ℤ) (w h k : ℕ) → net_by weights net w h k ≡ refined_net net w h k
unfolding net_by refined_net
our_net net w h k = λ t. stored (λ x. our_nets k (field net w x) t) (side_after k w) (side_after k h)

-- one step more, of the net that the steps before it left in a slice
pub step_more_by : (T : Table) → passes T ≡ true → (net : List ℤ) (w h k : ℕ) (old : List ℤ) →
    net_by T (over (net_by T net w h k) old) (side_after k w) (side_after k h) 1 ≡ net_by T net w h (suc k)
unfolding net_by
step_more_by T p net w h k old =
    let m = side_after k w in
    let n = side_after k h in
    let F : Fields = λ x. steps (refined_by T) k (field net w x) in
    stored_same (λ x. refined_by T (field (over (stored F m n) old) m x)) (λ x. refined_by T (F x)) (refined_side m)
    (refined_side n)
    (λ x c. refined_by_local T p (field (over (stored F m n) old) m x) (F x) m n
    (λ i j a b l. stored_field F m n old i j a b l x c))

pub step_more : (net : List ℤ) (w h k : ℕ) (old : List ℤ) →
    refined_net (over (refined_net net w h k) old) (side_after k w) (side_after k h) 1 ≡ refined_net net w h (suc k)
step_more net w h k old =
    sym (our_net (over (refined_net net w h k) old) (side_after k w) (side_after k h) 1)
    ∙ (λ t. net_by weights (over (sym (our_net net w h k) t) old) (side_after k w) (side_after k h) 1)
    ∙ step_more_by weights weights_pass net w h k old
    ∙ our_net net w h (suc k)
