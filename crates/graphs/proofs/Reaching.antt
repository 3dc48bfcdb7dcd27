-- `all_reached` tells whether the numbers inside are connected. What a round marks has a walk from the first number
-- inside. The marks only grow, so after n rounds a round adds nothing: what is marked is closed under edges, and a walk
-- from the first does not leave it.
use mathlib.Core.Path.{◌≡◌, refl, sym, ap, subst, ◌∙◌}
use mathlib.Core.Bool.{Bool, true, false, ◌&&◌, ◌||◌, not, and-eq-true_iff, true≢false, false≢true}
use mathlib.Core.List.{List, [], ◌∷◌}
use mathlib.Core.Logic.{◌⊎◌, inl, inr, ⊎_elim}
use Prim.Native.Nat.{ℕ, zero, suc, ◌≤◌, ◌<◌}
use native.Mathlib.Omega.{arith}
use native.Mathlib.Decide.{dec_lt}
use lib.Dec.{lit≤}
use borrow.Author.Tests.{not-true, not-false}
use Rattle.exact.proofs.FillingLaws.{get_or_runs, runs_same}
use Rattle.graphs.specs.Walks.{Walk, start, step, ConnectedBy, Judged}
use Rattle.graphs.specs.Links.{bit, count_below}
use Rattle.graphs.specs.Reaching.{any_below, marked, marks_of, is_first, next_reached, reached, all_reached}
use Rattle.graphs.proofs.Tests.{or_cases, or_first, or_second, both, and_second}
use Rattle.graphs.proofs.WalkLaws.{walk_on, walk_back}

-- ---- whether a test holds of a number below n

pub any_some : (n : ℕ) (f : ℕ → Bool) → any_below n f ≡ true → (t : ℕ) × (t < n) × (f t ≡ true)
any_some zero f e = absurd (false≢true e)
any_some (suc n) f e =
    ⊎_elim
    (λ (a : any_below n f ≡ true). let k = any_some n f a in (k.0, omega (arith, k.1), k.2))
    (λ (a : f n ≡ true). (n, omega arith, a))
    (or_cases (any_below n f) (f n) e)

pub any_yes : (n : ℕ) (f : ℕ → Bool) (t : ℕ) → t < n → f t ≡ true → any_below n f ≡ true
any_yes zero f t l e = absurd (omega (arith, l))
any_yes (suc n) f t l e = go (any_yes n f t) (dec_lt t n)
  where
    go : (t < n → f t ≡ true → any_below n f ≡ true) → Dec (t < n) → (any_below n f || f n) ≡ true
    go before (yes k) = or_first (any_below n f) (f n) (before k e)
    go before (no k) =
        let last : n ≡ t = omega arith in
        or_second (any_below n f) (f n) (ap f last ∙ e)

any_none : (n : ℕ) (f : ℕ → Bool) → any_below n f ≡ false → (t : ℕ) → t < n → f t ≡ false
any_none n f e t l = go (f t) refl
  where
    go : (b : Bool) → f t ≡ b → f t ≡ false
    go true a = absurd (true≢false (sym (any_yes n f t l a) ∙ e))
    go false a = a

-- tests that agree below n
pub any_same : (n : ℕ) (f g : ℕ → Bool) → ((t : ℕ) → t < n → f t ≡ g t) → any_below n f ≡ any_below n g
any_same zero f g h = refl
any_same (suc n) f g h = λ i. any_same n f g (λ t l. h t (omega arith)) i || h n (omega arith) i

-- ---- the first number inside

first_exists : (n : ℕ) (f : ℕ → Bool) → any_below n f ≡ true → (t : ℕ) × (t < n) × (is_first f t ≡ true)
first_exists zero f e = absurd (false≢true e)
first_exists (suc n) f e = go (first_exists n f) (any_below n f) refl e
  where
    go : (any_below n f ≡ true → (t : ℕ) × (t < n) × (is_first f t ≡ true)) → (b : Bool) → any_below n f ≡ b →
        (b || f n) ≡ true → (t : ℕ) × (t < suc n) × (is_first f t ≡ true)
    go before true a e = let k = before a in (k.0, omega (arith, k.1), k.2)
    go before false a e = (n, omega arith, both (f n) (not (any_below n f)) e (ap not a))

first_inside : (f : ℕ → Bool) (s : ℕ) → is_first f s ≡ true → f s ≡ true
first_inside f s e = ((and-eq-true_iff (f s) (not (any_below s f))).0 e).0

first_least : (f : ℕ → Bool) (s t : ℕ) → is_first f s ≡ true → f t ≡ true → s ≤ t
first_least f s t e a = go (dec_lt t s)
  where
    none : any_below s f ≡ false
    none = not-true (any_below s f) ((and-eq-true_iff (f s) (not (any_below s f))).0 e).1

    go : Dec (t < s) → s ≤ t
    go (yes l) = absurd (true≢false (sym (any_yes s f t l a) ∙ none))
    go (no l) = omega arith

first_once : (f : ℕ → Bool) (s t : ℕ) → is_first f s ≡ true → is_first f t ≡ true → s ≡ t
first_once f s t a b =
    let k : s ≤ t = first_least f s t a (first_inside f t b) in
    let l : t ≤ s = first_least f t s b (first_inside f s a) in
    omega arith

-- ---- how many numbers below n are marked

bit_less : (a b : Bool) → (a ≡ true → b ≡ true) → bit a ≤ bit b
bit_less true b h = subst (λ (t : Bool). 1 ≤ bit t) (sym (h refl)) (lit≤ tt)
bit_less false b h = omega arith

bit_back : (a b : Bool) → bit b ≤ bit a → b ≡ true → a ≡ true
bit_back true b h e = refl
bit_back false b h e = absurd (omega (arith, h, ap bit e))

bit_most : (a : Bool) → bit a ≤ 1
bit_most true = lit≤ tt
bit_most false = lit≤ tt

count_most : (n : ℕ) (f : ℕ → Bool) → count_below n f ≤ n
unfolding count_below
count_most zero f = lit≤ tt
count_most (suc n) f = omega (arith, count_most n f, bit_most (f n))

count_grows : (n : ℕ) (f g : ℕ → Bool) → ((t : ℕ) → t < n → f t ≡ true → g t ≡ true) → count_below n f ≤ count_below n g
unfolding count_below
count_grows zero f g h = lit≤ tt
count_grows (suc n) f g h =
    omega (arith, count_grows n f g (λ t l. h t (omega arith)), bit_less (f n) (g n) (h n (omega arith)))

-- where the count does not grow, nothing was added
count_stays : (n : ℕ) (f g : ℕ → Bool) → ((t : ℕ) → t < n → f t ≡ true → g t ≡ true) → count_below n g ≤ count_below n f →
    (t : ℕ) → t < n → g t ≡ true → f t ≡ true
unfolding count_below
count_stays zero f g h k t l = absurd (omega (arith, l))
count_stays (suc n) f g h k t l = go (count_stays n f g (λ u m. h u (omega arith))) (dec_lt t n)
  where
    less : count_below n f ≤ count_below n g
    less = count_grows n f g (λ u m. h u (omega arith))

    last : bit (f n) ≤ bit (g n)
    last = bit_less (f n) (g n) (h n (omega arith))

    go : (count_below n g ≤ count_below n f → (t : ℕ) → t < n → g t ≡ true → f t ≡ true) → Dec (t < n) → g t ≡ true → f t ≡ true
    go before (yes m) = before (omega (arith, k, last)) t m
    go before (no m) =
        let at : n ≡ t = omega arith in
        subst (λ (u : ℕ). g u ≡ true → f u ≡ true) at (bit_back (f n) (g n) (omega (arith, k, less)))

-- ---- rounds

marks_are : (n : ℕ) (f : ℕ → Bool) (t : ℕ) → t < n → marked (marks_of n f) t ≡ f t
marks_are n f t l =
    ap (marked (marks_of n f)) (omega arith)
    ∙ get_or_runs n 1 (λ t. f t ∷ []) false (λ i k. refl) t 0 l (omega arith)

module _ (n : ℕ) (inside : ℕ → Bool) (edge : ℕ → ℕ → Bool) where
  -- whether t is marked after so many rounds
  abbrev mark : ℕ → ℕ → Bool
  mark r t = marked (reached n inside edge r) t

  mark_zero : (t : ℕ) → t < n → mark 0 t ≡ is_first inside t
  unfolding reached
  mark_zero t l = marks_are n (is_first inside) t l

  mark_suc : (r t : ℕ) → t < n → mark (suc r) t ≡ (mark r t || any_below n (λ u. mark r u && edge u t))
  unfolding reached
  mark_suc r t l = marks_are n (next_reached n edge (reached n inside edge r)) t l

  round_keeps : (r t : ℕ) → t < n → mark r t ≡ true → mark (suc r) t ≡ true
  round_keeps r t l e = mark_suc r t l ∙ or_first (mark r t) (any_below n (λ u. mark r u && edge u t)) e

  round_joins : (r u t : ℕ) → u < n → t < n → mark r u ≡ true → edge u t ≡ true → mark (suc r) t ≡ true
  round_joins r u t k l e a =
      mark_suc r t l
      ∙ or_second (mark r t) (any_below n (λ u. mark r u && edge u t))
      (any_yes n (λ u. mark r u && edge u t) u k (both (mark r u) (edge u t) e a))

  -- what a round adds, an edge joins to what was there
  round_from : (r t : ℕ) → t < n → mark (suc r) t ≡ true →
      (mark r t ≡ true) ⊎ ((u : ℕ) × (u < n) × (mark r u ≡ true) × (edge u t ≡ true))
  round_from r t l e =
      ⊎_elim inl
      (λ (a : any_below n (λ u. mark r u && edge u t) ≡ true).
      let k = any_some n (λ u. mark r u && edge u t) a in
      let b = (and-eq-true_iff (mark r k.0) (edge k.0 t)).0 k.2 in
      inr (k.0, k.1, b.0, b.1))
      (or_cases (mark r t) (any_below n (λ u. mark r u && edge u t)) (sym (mark_suc r t l) ∙ e))

  -- a round that adds nothing; then the next adds nothing
  abbrev Fixed : ℕ → Type 0
  Fixed r = (t : ℕ) → t < n → mark (suc r) t ≡ true → mark r t ≡ true

  fixed_on : (r : ℕ) → Fixed r → Fixed (suc r)
  fixed_on r f t l e =
      ⊎_elim (λ (a : mark (suc r) t ≡ true). a) (λ k. round_joins r k.0 t k.1 l (f k.0 k.1 k.2) k.3)
      (round_from (suc r) t l e)

  -- each round before that adds one at least
  fixed_or_more : (r : ℕ) → Fixed r ⊎ (r ≤ count_below n (mark r))
  fixed_or_more zero = inr (omega arith)
  fixed_or_more (suc r) =
      ⊎_elim (λ f. inl (fixed_on r f)) (λ more. go more (dec_lt (count_below n (mark r)) (count_below n (mark (suc r)))))
      (fixed_or_more r)
    where
      go : r ≤ count_below n (mark r) → Dec (count_below n (mark r) < count_below n (mark (suc r))) →
          Fixed (suc r) ⊎ (suc r ≤ count_below n (mark (suc r)))
      go more (yes l) = inr (omega arith)
      go more (no l) = inl (fixed_on r (count_stays n (mark r) (mark (suc r)) (λ t k. round_keeps r t k) (omega arith)))

  -- n rounds are enough
  all_rounds : Fixed n
  all_rounds =
      ⊎_elim (λ (f : Fixed n). f)
      (λ (full : n ≤ count_below n (mark n)). λ t l e.
      count_stays n (mark n) (λ u. true) (λ u k a. refl) (omega (arith, full, count_most n (λ u. true))) t l refl)
      (fixed_or_more n)

  kept : (r t : ℕ) → t < n → mark 0 t ≡ true → mark r t ≡ true
  kept zero t l e = e
  kept (suc r) t l e = round_keeps r t l (kept r t l e)

  abbrev Edge : ℕ → ℕ → Type 0
  Edge u v = (u < n) × (v < n) × (edge u v ≡ true)

  -- what is marked has a walk from the first
  walk_from : (s : ℕ) → is_first inside s ≡ true → (r t : ℕ) → t < n → mark r t ≡ true → Walk Edge s t
  walk_from s a zero t l e =
      subst (λ (u : ℕ). Walk Edge s u) (first_once inside s t a (sym (mark_zero t l) ∙ e)) start
  walk_from s a (suc r) t l e =
      ⊎_elim (walk_from s a r t l)
      (λ k. step k.0 t (walk_from s a r k.0 k.1 k.2) (inl (k.1, l, k.3)))
      (round_from r t l e)

  module _ (symmetric : (u v : ℕ) → u < n → v < n → edge u v ≡ edge v u) where
    -- and what has a walk from the first is marked
    walk_marked : (s : ℕ) → s < n → is_first inside s ≡ true → {t : ℕ} → Walk Edge s t → (t < n) × (mark n t ≡ true)
    walk_marked s l a start = (l, kept n s l (mark_zero s l ∙ a))
    walk_marked s l a (step u v w e) =
        let m = walk_marked s l a w in
        let on : v < n → edge u v ≡ true → mark n v ≡ true =
        λ b c. all_rounds v b (round_joins n u v m.0 b m.1 c) in
        ⊎_elim (λ (k : Edge u v). (k.1, on k.1 k.2))
        (λ (k : Edge v u). (k.0, on k.0 (symmetric u v m.0 k.0 ∙ k.2))) e

    abbrev Inside : ℕ → Type 0
    Inside t = (t < n) × (inside t ≡ true)

    abbrev missed : ℕ → Bool
    missed t = inside t && not (mark n t)

    all_connected : any_below n inside ≡ true → any_below n missed ≡ false → ConnectedBy Inside Edge
    all_connected some none =
        let s = first_exists n inside some in
        let from : (t : ℕ) → Inside t → Walk Edge s.0 t = λ t k.
        walk_from s.0 s.2 n t k.0
        (not-false (mark n t) (and_second (inside t) (not (mark n t)) k.1 (any_none n missed none t k.0))) in
        ((s.0, (s.1, first_inside inside s.0 s.2)), λ t u k m. walk_on (walk_back (from t k)) (from u m))

    not_missed : any_below n inside ≡ true → ConnectedBy Inside Edge → any_below n missed ≡ true → ⊥
    not_missed some c e =
        let s = first_exists n inside some in
        let u = any_some n missed e in
        let m = (and-eq-true_iff (inside u.0) (not (mark n u.0))).0 u.2 in
        let w = c.1 s.0 u.0 (s.1, first_inside inside s.0 s.2) (u.1, m.0) in
        true≢false (sym (walk_marked s.0 s.1 s.2 w).1 ∙ not-true (mark n u.0) m.1)

    pub reaching_judged :
        Judged
        (ConnectedBy (λ t. (t < n) × (inside t ≡ true)) (λ u v. (u < n) × (v < n) × (edge u v ≡ true)))
        (all_reached n inside edge)
    unfolding all_reached
    reaching_judged = record { told = yes_case; denied = no_case }
      where
        yes_case : (any_below n inside && not (any_below n missed)) ≡ true → ConnectedBy Inside Edge
        yes_case e =
            let p = (and-eq-true_iff (any_below n inside) (not (any_below n missed))).0 e in
            all_connected p.0 (not-true (any_below n missed) p.1)

        no_case : (any_below n inside && not (any_below n missed)) ≡ false → ConnectedBy Inside Edge → ⊥
        no_case e c =
            let some = any_yes n inside c.0.0 c.0.1.0 c.0.1.1 in
            not_missed some c
            (not-false (any_below n missed) (and_second (any_below n inside) (not (any_below n missed)) some e))

-- ---- what is the same below n is reached alike

module _ (n : ℕ) (f g : ℕ → Bool) (d e : ℕ → ℕ → Bool) (same : (t : ℕ) → t < n → f t ≡ g t)
    (joined : (u t : ℕ) → u < n → t < n → d u t ≡ e u t) where
  next_same : (marks : List Bool) → marks_of n (next_reached n d marks) ≡ marks_of n (next_reached n e marks)
  next_same marks =
      runs_same n (λ t. next_reached n d marks t ∷ []) (λ t. next_reached n e marks t ∷ [])
      (λ t l. ap (λ (b : Bool). (marked marks t || b) ∷ [])
      (any_same n (λ u. marked marks u && d u t) (λ u. marked marks u && e u t)
      (λ u k. ap (λ (b : Bool). marked marks u && b) (joined u t k l))))

  reached_same : (r : ℕ) → reached n f d r ≡ reached n g e r
  unfolding reached
  reached_same zero =
      runs_same n (λ t. is_first f t ∷ []) (λ t. is_first g t ∷ [])
      (λ t l. λ i. (same t l i && not (any_same t f g (λ u k. same u (omega arith)) i)) ∷ [])
  reached_same (suc r) =
      ap (λ (marks : List Bool). marks_of n (next_reached n d marks)) (reached_same r) ∙ next_same (reached n g e r)

  pub all_reached_same : all_reached n f d ≡ all_reached n g e
  unfolding all_reached
  all_reached_same =
      λ i. any_same n f g same i
      && not (any_same n (λ t. f t && not (marked (reached n f d n) t)) (λ t. g t && not (marked (reached n g e n) t))
      (λ t l. λ j. same t l j && not (marked (reached_same n j) t)) i)
