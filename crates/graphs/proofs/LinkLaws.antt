-- Laws of links: each number has one root; joining two numbers makes their roots one and keeps what was joined; where
-- all edges join equal roots, two numbers have one root exactly when a walk leads from one to the other.
use mathlib.Core.Path.{◌≡◌, refl, sym, ap, subst, ◌∙◌}
use mathlib.Core.Bool.{Bool, true, false, cond, true≢false}
use mathlib.Core.List.{List, [], ◌∷◌, ◌++◌, append-nil}
use mathlib.Core.Logic.{⊎_elim}
use Prim.Native.Nat.{ℕ, zero, suc, ◌+◌, ◌≤◌, ◌<◌, min, max}
use native.Mathlib.Nat.{mul-one}
use native.Mathlib.Numerals.{add-one}
use native.Mathlib.Omega.{arith}
use native.Mathlib.Decide.{dec_lt}
use lib.Dec.{eqb}
use lib.ListN.{length, drop, set, length-set}
use lib.Seq.{get_or-set_same, get_or-set_other, set-get_or, drop-length}
use borrow.Author.Tests.{eqb-true, eqb-false}
use Rattle.exact.specs.Filling.{over, runs}
use Rattle.exact.proofs.FillingLaws.{length_runs, get_or_runs}
use Rattle.graphs.specs.Walks.{Walk, start, step}
use Rattle.graphs.specs.Links.{
  link,
  Linked,
  Root,
  here,
  further,
  JoinedAt,
  JoinedIf,
  Held,
  SameRoot,
  Keeps,
  Grown,
  bit,
  count_below,
}
use Rattle.graphs.proofs.WalkLaws.{walk_on, walk_back}

-- a test does not both hold and fail
pub not_both : {b : Bool} → b ≡ true → b ≡ false → ⊥
not_both e f = true≢false (sym e ∙ f)

-- ---- roots

-- a link that does not go down stays
pub root_here : (l : List ℕ) (r : ℕ) → Linked l → r < length l → (link l r < r → ⊥) → Root l r r
root_here l r k h n = here r (omega (arith, k r h, n))

pub root_below : {l : List ℕ} {t r : ℕ} → Root l t r → r ≤ t
root_below (here t e) = omega arith
root_below (further t r d h) = omega (arith, d, root_below h)

pub root_stays : {l : List ℕ} {t r : ℕ} → Root l t r → link l r ≡ r
root_stays (here t e) = e
root_stays (further t r d h) = root_stays h

-- each number has a root, and one only
root_within : (l : List ℕ) → Linked l → (n t : ℕ) → t < n → t < length l → (r : ℕ) × Root l t r
root_within l k zero t a b = absurd (omega (arith, a))
root_within l k (suc n) t a b = go (dec_lt (link l t) t) (root_within l k n (link l t))
  where
    go : Dec (link l t < t) → (link l t < n → link l t < length l → (r : ℕ) × Root l (link l t) r) →
        (r : ℕ) × Root l t r
    go (yes d) next =
        let s = next (omega (arith, a, d)) (omega (arith, b, d)) in
        (s.0, further t s.0 d s.1)
    go (no d) next = (t, root_here l t k b d)

pub some_root : (l : List ℕ) → Linked l → (t : ℕ) → t < length l → (r : ℕ) × Root l t r
some_root l k t b = root_within l k (suc t) t (omega arith) b

pub one_root : {l : List ℕ} {t r s : ℕ} → Root l t r → Root l t s → r ≡ s
one_root (here t e) (here _ f) = refl
one_root (here t e) (further _ r d h) = absurd (omega (arith, e, d))
one_root (further t r d h) (here _ f) = absurd (omega (arith, f, d))
one_root (further t r d h) (further _ s e k) = one_root h k

-- ---- walks and roots

module _ {Edge : ℕ → ℕ → Type 0} where
  -- a walk leads to the root
  pub walk_up : {l : List ℕ} → Held Edge l → {t r : ℕ} → t < length l → Root l t r → Walk Edge t r
  walk_up k b (here t e) = start
  walk_up k b (further t r d h) = walk_on (k.along t b) (walk_up k (omega (arith, b, d)) h)

  -- along a walk the roots are the same, where they are along each edge
  pub same_along : (l : List ℕ) → Linked l →
      ((u v : ℕ) → Edge u v → (u < length l) × (v < length l) × SameRoot l u v) →
      {t u : ℕ} → t < length l → Walk Edge t u → (u < length l) × SameRoot l t u
  same_along l k f b start = (b, λ r s h i. one_root h i)
  same_along l k f b (step u v x e) =
      let i = same_along l k f b x in
      let r = some_root l k u i.0 in
      ⊎_elim
      (λ (a : Edge u v). ((f u v a).1, λ p s h j. i.1 p r.0 h r.1 ∙ (f u v a).2 r.0 s r.1 j))
      (λ (a : Edge v u). ((f v u a).0, λ p s h j. i.1 p r.0 h r.1 ∙ sym ((f v u a).2 s r.0 j r.1)))
      e

-- ---- links as they are at first: each number links to itself

module _ (n : ℕ) where
  abbrev own : List ℕ
  own = runs n (λ t. t ∷ [])

  pub own_length : length own ≡ n
  own_length = length_runs n 1 (λ t. t ∷ []) (λ i h. refl) ∙ mul-one n

  -- laid over as many, nothing else is left
  pub own_over : (old : List ℕ) → length old ≡ n → over own old ≡ own
  unfolding over
  own_over old e =
      ap (λ (l : List ℕ). own ++ l) (ap (λ (k : ℕ). drop k old) (own_length ∙ sym e) ∙ drop-length old)
      ∙ append-nil own

  own_link : (t : ℕ) → t < n → link own t ≡ t
  own_link t b =
      ap (link own) (omega (arith, mul-one t)) ∙ get_or_runs n 1 (λ i. i ∷ []) 0 (λ i h. refl) t 0 b (omega arith)

  pub own_held : {Edge : ℕ → ℕ → Type 0} → Held Edge own
  own_held {Edge} =
      record {
        linked = λ t b. omega (arith, own_link t (omega (arith, b, own_length)));
        along = λ t b. subst (λ (u : ℕ). Walk Edge t u) (sym (own_link t (omega (arith, b, own_length)))) start;
      }

-- ---- one join

-- after the root `hi` is linked to the root `lo`, what had the root `hi` has the root `lo`, and all else keeps its root
abbrev moved : ℕ → ℕ → ℕ → ℕ
moved hi lo r = cond (eqb r hi) lo r

module _ (l : List ℕ) (hi lo : ℕ) (below : lo < hi) (inside : hi < length l) (top : link l hi ≡ hi)
    (low : link l lo ≡ lo) where
  abbrev after : List ℕ
  after = set l hi lo

  kept : (t : ℕ) → (t ≡ hi → ⊥) → link after t ≡ link l t
  kept t n = get_or-set_other l hi t lo 0 n

  at_hi : {t : ℕ} → t ≡ hi → link after t ≡ lo
  at_hi e = ap (link after) e ∙ get_or-set_same l hi lo 0 inside

  at_here : (t : ℕ) → link l t ≡ t → (b : Bool) → eqb t hi ≡ b → Root after t (cond b lo t)
  at_here t e true q =
      let same : link after t ≡ lo = at_hi (eqb-true t hi q) in
      let stays : Root after lo lo = here lo (kept lo (λ e. omega (arith, e, below)) ∙ low) in
      further t lo (omega (arith, same, below, eqb-true t hi q)) (subst (λ (u : ℕ). Root after u lo) (sym same) stays)
  at_here t e false q = here t (kept t (eqb-false t hi q) ∙ e)

  root_moved : {t r : ℕ} → Root l t r → Root after t (moved hi lo r)
  root_moved (here t e) = at_here t e (eqb t hi) refl
  root_moved (further t r d h) =
      let same : link after t ≡ link l t = kept t (λ e. omega (arith, ap (link l) e, top, d, e)) in
      further t (moved hi lo r) (omega (arith, same, d))
      (subst (λ (u : ℕ). Root after u (moved hi lo r)) (sym same) (root_moved h))

  -- walks still lead along the links
  join_held : {Edge : ℕ → ℕ → Type 0} → Held Edge l → Walk Edge hi lo → Held Edge after
  join_held {Edge} k w =
      record {
        linked = λ t b. at t (eqb t hi) refl (λ e. omega (arith, at_hi e, below, e)) (λ n.
            omega (arith, kept t n, k.linked t (omega (arith, length-set l hi lo, b))));
        along = λ t b. at t (eqb t hi) refl
            (λ e. subst (λ (u : ℕ). Walk Edge t u) (sym (at_hi e)) (subst (λ (u : ℕ). Walk Edge u lo) (sym e) w))
            (λ n. subst (λ (u : ℕ). Walk Edge t u) (sym (kept t n))
            (k.along t (omega (arith, length-set l hi lo, b))));
      }
    where
      at : {P : Type 0} (t : ℕ) (b : Bool) → eqb t hi ≡ b → (t ≡ hi → P) → ((t ≡ hi → ⊥) → P) → P
      at t true e f g = f (eqb-true t hi e)
      at t false e f g = g (eqb-false t hi e)

  -- the same roots stay the same
  join_keeps : Linked l → Keeps l after
  join_keeps k = (
    length-set l hi lo,
    λ c d p q f r s h i.
        let x = some_root l k c p in
        let y = some_root l k d q in
        one_root h (root_moved x.1) ∙ ap (moved hi lo) (f x.0 y.0 x.1 y.1)
        ∙ one_root (root_moved y.1) i,
  )

  -- and the two that are joined become the same
  join_joins : (c d : ℕ) → Root l c hi → Root l d lo → SameRoot after c d
  join_joins c d x y r s h i =
      one_root h (root_moved x) ∙ hi_moved (eqb hi hi) refl ∙ sym (lo_moved (eqb lo hi) refl)
      ∙ one_root (root_moved y) i
    where
      hi_moved : (b : Bool) → eqb hi hi ≡ b → cond b lo hi ≡ lo
      hi_moved true e = refl
      hi_moved false e = absurd (eqb-false hi hi e refl)

      lo_moved : (b : Bool) → eqb lo hi ≡ b → cond b lo lo ≡ lo
      lo_moved true e = refl
      lo_moved false e = refl

-- ---- joins one after the other

pub grown_none : {Edge : ℕ → ℕ → Type 0} {l : List ℕ} → Held Edge l → Grown Edge l l
grown_none k = record { held = k; keeps = (refl, λ a b p q f. f) }

pub grown_more : {Edge : ℕ → ℕ → Type 0} {l m n : List ℕ} → Grown Edge l m → Grown Edge m n → Grown Edge l n
grown_more {Edge} {l} {m} {n} g h =
    let long = g.keeps.0 in
    record {
      held = h.held;
      keeps = (
        h.keeps.0 ∙ long,
        λ a b p q f.
            h.keeps.1 a b (omega (arith, p, long)) (omega (arith, q, long)) (g.keeps.1 a b p q f),
      );
    }

-- what a join stores: where a walk leads from one to the other, the links have grown, and both have one root
joined_down : {Edge : ℕ → ℕ → Type 0} (l : List ℕ) {c d hi lo : ℕ} → c < length l → d < length l → Held Edge l →
    Walk Edge c d → Root l c hi → Root l d lo → lo < hi → Grown Edge l (set l hi lo) × SameRoot (set l hi lo) c d
joined_down l {c} {d} {hi} {lo} p q k w x y b =
    let inside : hi < length l = omega (arith, p, root_below x) in
    let between = walk_on (walk_back (walk_up k p x)) (walk_on w (walk_up k q y)) in (
      record {
        held = join_held l hi lo b inside (root_stays x) (root_stays y) k between;
        keeps = join_keeps l hi lo b inside (root_stays x) (root_stays y) k.linked;
      },
      join_joins l hi lo b inside (root_stays x) (root_stays y) c d x y,
    )

pub join_grown : {Edge : ℕ → ℕ → Type 0} {before after : List ℕ} {a b : ℕ} → a < length before → b < length before →
    Held Edge before → Walk Edge a b → JoinedAt before after a b → Grown Edge before after × SameRoot after a b
join_grown {Edge} {before} {after} {a} {b} p q k w j =
    go j.first j.second j.first_root j.second_root j.stored
    (dec_lt j.first j.second) (dec_lt j.second j.first)
  where
    to : (hi lo : ℕ) → after ≡ set before hi lo →
        Grown Edge before (set before hi lo) × SameRoot (set before hi lo) a b →
        Grown Edge before after × SameRoot after a b
    to hi lo e g = subst (λ (l : List ℕ). Grown Edge before l × SameRoot l a b) (sym e) g

    stored_as : (r s hi lo : ℕ) → after ≡ set before (max r s) (min r s) → max r s ≡ hi → min r s ≡ lo →
        after ≡ set before hi lo
    stored_as r s hi lo e f g = e ∙ (λ i. set before (f i) (g i))

    go : (r s : ℕ) → Root before a r → Root before b s → after ≡ set before (max r s) (min r s) → Dec (r < s) →
        Dec (s < r) → Grown Edge before after × SameRoot after a b
    go r s x y e (yes d) _ =
        let g = joined_down before q p k (walk_back w) y x d in
        to s r (stored_as r s s r e (omega arith) (omega arith)) (g.0, λ m n h i. sym (g.1 n m i h))
    go r s x y e (no d) (yes f) =
        to r s (stored_as r s r s e (omega arith) (omega arith)) (joined_down before p q k w x y f)
    go r s x y e (no d) (no f) =
        let one : r ≡ s = omega arith in
        let same : after ≡ before =
        stored_as r s r (link before r) e (omega arith) (omega (arith, root_stays x)) ∙ set-get_or before r 0 in
        subst (λ (l : List ℕ). Grown Edge before l × SameRoot l a b) (sym same)
        (grown_none k, λ m n h i. one_root h x ∙ one ∙ one_root y i)

pub join_grown_if : {Edge : ℕ → ℕ → Type 0} {before after : List ℕ} {a b : ℕ} (t : Bool) → Held Edge before →
    (t ≡ true → (a < length before) × (b < length before) × Walk Edge a b) → JoinedIf t before after a b →
    Grown Edge before after × (t ≡ true → SameRoot after a b)
join_grown_if true k w j =
    let e = w refl in
    let g = join_grown e.0 e.1 k e.2 j in
    (g.0, λ _. g.1)
join_grown_if {Edge} {before} false k w j =
    (subst (λ (l : List ℕ). Grown Edge before l) (sym j) (grown_none k), λ e. absurd (not_both e refl))

-- ---- exactly one

pub count_start : (f : ℕ → Bool) → count_below 0 f ≡ 0
unfolding count_below
count_start f = refl

-- the numbers below n + 1 for which f holds are those below n, and n where it does
pub count_more : (n : ℕ) (f : ℕ → Bool) → count_below (n + 1) f ≡ count_below n f + bit (f n)
unfolding count_below
count_more n f = ap (λ (k : ℕ). count_below k f) (add-one n)

abbrev None : ℕ → (ℕ → Bool) → Type 0
None n f = (t : ℕ) → t < n → f t ≡ true → ⊥

-- one, and no other
pub record ExactlyOne (n : ℕ) (f : ℕ → Bool) : Type 0 where
  pub which : ℕ
  pub below : which < n
  pub holds : f which ≡ true
  pub only : (t : ℕ) → t < n → f t ≡ true → t ≡ which

count_none : (n : ℕ) (f : ℕ → Bool) → count_below n f ≡ 0 → None n f
unfolding count_below
count_none zero f e t b y = omega (arith, b)
count_none (suc n) f e t b y = go (f n) refl (dec_lt t n) (count_none n f)
  where
    go : (v : Bool) → f n ≡ v → Dec (t < n) → (count_below n f ≡ 0 → None n f) → ⊥
    go true q d before = omega (arith, e, ap bit q)
    go false q (yes d) before = before (omega (arith, e)) t d y
    go false q (no d) before =
        let last : t ≡ n = omega arith in
        not_both (ap f (sym last) ∙ y) q

none_counted : (n : ℕ) (f : ℕ → Bool) → None n f → count_below n f ≡ 0
unfolding count_below
none_counted zero f k = refl
none_counted (suc n) f k = go (f n) refl (none_counted n f (λ t b. k t (omega (arith, b))))
  where
    go : (v : Bool) → f n ≡ v → count_below n f ≡ 0 → count_below n f + bit (f n) ≡ 0
    go true q before = absurd (k n (omega arith) q)
    go false q before = omega (arith, before, ap bit q)

pub count_one : (n : ℕ) (f : ℕ → Bool) → count_below n f ≡ 1 → ExactlyOne n f
unfolding count_below
count_one zero f e = absurd (omega (arith, e))
count_one (suc n) f e = go (f n) refl (count_one n f)
  where
    go : (v : Bool) → f n ≡ v → (count_below n f ≡ 1 → ExactlyOne n f) → ExactlyOne (suc n) f
    go true q before =
        let rest = count_none n f (omega (arith, e, ap bit q)) in
        record { which = n; below = omega arith; holds = q; only = λ t b y. last t b y (dec_lt t n) rest }
      where
        last : (t : ℕ) → t < suc n → f t ≡ true → Dec (t < n) → None n f → t ≡ n
        last t b y (yes d) rest = absurd (rest t d y)
        last t b y (no d) rest = omega (arith, b, d)
    go false q before =
        let one = before (omega (arith, e, ap bit q)) in
        record {
          which = one.which;
          below = omega (arith, one.below);
          holds = one.holds;
          only = λ t b y. one.only t (short t b y (dec_lt t n)) y;
        }
      where
        short : (t : ℕ) → t < suc n → f t ≡ true → Dec (t < n) → t < n
        short t b y (yes d) = d
        short t b y (no d) =
            let last : t ≡ n = omega arith in
            absurd (not_both (ap f (sym last) ∙ y) q)

pub one_counted : (n : ℕ) (f : ℕ → Bool) → ExactlyOne n f → count_below n f ≡ 1
unfolding count_below
one_counted zero f x = absurd (omega (arith, x.below))
one_counted (suc n) f x = go (f n) refl (one_counted n f) (dec_lt x.which n)
  where
    go : (v : Bool) → f n ≡ v → (ExactlyOne n f → count_below n f ≡ 1) → Dec (x.which < n) →
        count_below n f + bit (f n) ≡ 1
    go true q before d =
        let last : n ≡ x.which = x.only n (omega arith) q in
        omega (
          arith,
          ap bit q,
          none_counted n f (λ t b y.
              omega (arith, b, last, x.only t (omega (arith, b)) y)),
        )
    go false q before (yes d) =
        omega (
          arith,
          ap bit q,
          before (record {
            which = x.which;
            below = d;
            holds = x.holds;
            only = λ t b y. x.only t (omega (arith, b)) y;
          }),
        )
    go false q before (no d) =
        let last : x.which ≡ n = omega (arith, d, x.below) in
        absurd (not_both (ap f (sym last) ∙ x.holds) q)
