-- Identities of integers by computation. An expression has a value in an environment, the list of what its variables
-- stand for, and a normal form, a sorted list of terms. Two expressions with the same normal form have the same value:
-- `identity a b ρ refl` proves `value ρ a ≡ value ρ b`. `value` computes, so that is the identity as it is written.
use mathlib.Core.Path.{◌≡◌, refl, sym, ◌∙◌, ap, subst}
use mathlib.Core.List.{List, [], ◌∷◌, map}
use mathlib.Core.Bool.{Bool, true, false}
use Prim.Native.Nat.{ℕ, compare, Ordering}
use lib.Dec.{T, leb, eqb, compare_is_eq, eqb→eq}
use lib.ListN.{get_or}
use lib.IntN.{ℤ, pos, negsuc, neg_ℤ, ◌+ℤ◌, ◌-ℤ◌, ◌*ℤ◌, +ℤ_assoc, +ℤ_idl, +ℤ_idr, neg_ℤ-+ℤ, zero-*ℤ, *ℤ-zero, *ℤ_comm}
use Rattle.exact.proofs.Integers.{+ℤ-left-comm, +ℤ-*ℤ, *ℤ-+ℤ, *ℤ-assoc, *ℤ-exchange, *ℤ-left-comm, neg_times, one_times}

-- ---- expressions and their value

pub data Op : Type 0 where
  plus minus times : Op

pub data Expr : Type 0 where
  var : ℕ → Expr
  lit : ℤ → Expr
  op : Op → Expr → Expr → Expr

infixl 6 ◌⊕◌ ◌⊖◌
infixl 7 ◌⊗◌
abbrev pub ◌⊕◌ : Expr → Expr → Expr
a ⊕ b = op plus a b

abbrev pub ◌⊖◌ : Expr → Expr → Expr
a ⊖ b = op minus a b

abbrev pub ◌⊗◌ : Expr → Expr → Expr
a ⊗ b = op times a b

abbrev pub apply : Op → ℤ → ℤ → ℤ
apply plus x y = x +ℤ y
apply minus x y = x -ℤ y
apply times x y = x *ℤ y

abbrev pub value : List ℤ → Expr → ℤ
value ρ (var i) = get_or ρ i (pos 0)
value ρ (lit z) = z
value ρ (op o a b) = apply o (value ρ a) (value ρ b)

-- ---- the normal form: terms in order, each a coefficient other than 0 and a sorted list of variables

pub data Terms : Type 0 where
  none : Terms
  term : ℤ → List ℕ → Terms → Terms

abbrev is_zero : ℤ → Bool
is_zero (pos n) = eqb n 0
is_zero (negsuc n) = false

abbrev and_then : Ordering → Ordering → Ordering
and_then Ordering.lt o = Ordering.lt
and_then Ordering.eq o = o
and_then Ordering.gt o = Ordering.gt

abbrev ordered : List ℕ → List ℕ → Ordering
ordered [] [] = Ordering.eq
ordered [] (j ∷ n) = Ordering.lt
ordered (i ∷ m) [] = Ordering.gt
ordered (i ∷ m) (j ∷ n) = and_then (compare i j) (ordered m n)

-- one term in front, left out where its coefficient is 0
abbrev keep : ℤ → List ℕ → Terms → Terms
keep c m p = elim (is_zero c) [ true ↦ p | false ↦ term c m p ]

-- one term more, put in its place
abbrev insert : ℤ → List ℕ → Terms → Terms
insert c m none = keep c m none
insert c m (term d n p) =
    elim (ordered m n) [
      | Ordering.lt ↦ keep c m (term d n p)
      | Ordering.eq ↦ keep (c +ℤ d) n p
      | Ordering.gt ↦ term d n (insert c m p)
    ]

abbrev sum_of : Terms → Terms → Terms
sum_of none q = q
sum_of (term c m p) q = insert c m (sum_of p q)

abbrev insert_var : ℕ → List ℕ → List ℕ
insert_var i [] = i ∷ []
insert_var i (j ∷ n) = elim (leb i j) [ true ↦ i ∷ j ∷ n | false ↦ j ∷ insert_var i n ]

abbrev join_vars : List ℕ → List ℕ → List ℕ
join_vars [] n = n
join_vars (i ∷ m) n = insert_var i (join_vars m n)

abbrev times_term : ℤ → List ℕ → Terms → Terms
times_term c m none = none
times_term c m (term d n p) = insert (c *ℤ d) (join_vars m n) (times_term c m p)

abbrev product_of : Terms → Terms → Terms
product_of none q = none
product_of (term c m p) q = sum_of (times_term c m q) (product_of p q)

abbrev negation_of : Terms → Terms
negation_of none = none
negation_of (term c m p) = term (neg_ℤ c) m (negation_of p)

abbrev combined : Op → Terms → Terms → Terms
combined plus p q = sum_of p q
combined minus p q = sum_of p (negation_of q)
combined times p q = product_of p q

abbrev pub normal : Expr → Terms
normal (var i) = term (pos 1) (i ∷ []) none
normal (lit z) = keep z [] none
normal (op o a b) = combined o (normal a) (normal b)

-- ---- the value of a normal form is the expression's value

ordered_eq : (m n : List ℕ) → ordered m n ≡ Ordering.eq → m ≡ n
ordered_eq [] [] e = refl
ordered_eq [] (j ∷ n) e = absurd (subst T (sym (ap compare_is_eq e)) tt)
ordered_eq (i ∷ m) [] e = absurd (subst T (sym (ap compare_is_eq e)) tt)
ordered_eq (i ∷ m) (j ∷ n) e = go (ordered_eq m n) (compare i j) refl e
  where
    go : (ordered m n ≡ Ordering.eq → m ≡ n) → (o : Ordering) → compare i j ≡ o →
        and_then o (ordered m n) ≡ Ordering.eq → i ∷ m ≡ j ∷ n
    go ih Ordering.lt p q = absurd (subst T (sym (ap compare_is_eq q)) tt)
    go ih Ordering.eq p q = λ t. eqb→eq i j (subst T (sym (ap compare_is_eq p)) tt) t ∷ ih q t
    go ih Ordering.gt p q = absurd (subst T (sym (ap compare_is_eq q)) tt)

zero_of : (c : ℤ) → is_zero c ≡ true → c ≡ pos 0
zero_of (pos n) e = ap pos (eqb→eq n 0 (subst T (sym e) tt))
zero_of (negsuc n) e = absurd (subst T (sym e) tt)

module _ (ρ : List ℤ) where
  abbrev at : ℕ → ℤ
  at i = get_or ρ i (pos 0)

  vars_value : List ℕ → ℤ
  vars_value [] = pos 1
  vars_value (i ∷ m) = at i *ℤ vars_value m

  terms_value : Terms → ℤ
  terms_value none = pos 0
  terms_value (term c m p) = c *ℤ vars_value m +ℤ terms_value p

  keep_value : (c : ℤ) (m : List ℕ) (p : Terms) → terms_value (keep c m p) ≡ c *ℤ vars_value m +ℤ terms_value p
  unfolding terms_value
  keep_value c m p = go (is_zero c) refl
    where
      go : (b : Bool) → is_zero c ≡ b →
          terms_value (elim b as (λ (x : Bool). Terms) [ true ↦ p | false ↦ term c m p ])
          ≡ c *ℤ vars_value m +ℤ terms_value p
      go true e =
          sym
          (ap (λ (x : ℤ). x *ℤ vars_value m +ℤ terms_value p) (zero_of c e)
          ∙ ap (λ (x : ℤ). x +ℤ terms_value p) (zero-*ℤ (vars_value m))
          ∙ +ℤ_idl (terms_value p))
      go false e = refl

  insert_value : (c : ℤ) (m : List ℕ) (p : Terms) → terms_value (insert c m p) ≡ c *ℤ vars_value m +ℤ terms_value p
  unfolding terms_value
  insert_value c m none = keep_value c m none
  insert_value c m (term d n p) = go (insert_value c m p) (ordered m n) refl
    where
      go : terms_value (insert c m p) ≡ c *ℤ vars_value m +ℤ terms_value p → (o : Ordering) → ordered m n ≡ o →
          terms_value
          (elim o as (λ (x : Ordering). Terms) [
            | Ordering.lt ↦ keep c m (term d n p)
            | Ordering.eq ↦ keep (c +ℤ d) n p
            | Ordering.gt ↦ term d n (insert c m p)
          ])
          ≡ c *ℤ vars_value m +ℤ (d *ℤ vars_value n +ℤ terms_value p)
      go ih Ordering.lt e = keep_value c m (term d n p)
      go ih Ordering.eq e =
          keep_value (c +ℤ d) n p
          ∙ ap (λ (x : ℤ). x +ℤ terms_value p) (+ℤ-*ℤ c d (vars_value n))
          ∙ +ℤ_assoc (c *ℤ vars_value n) (d *ℤ vars_value n) (terms_value p)
          ∙ ap (λ (x : List ℕ). c *ℤ vars_value x +ℤ (d *ℤ vars_value n +ℤ terms_value p)) (sym (ordered_eq m n e))
      go ih Ordering.gt e =
          ap (λ (x : ℤ). d *ℤ vars_value n +ℤ x) ih
          ∙ +ℤ-left-comm (d *ℤ vars_value n) (c *ℤ vars_value m) (terms_value p)

  sum_of_value : (p q : Terms) → terms_value (sum_of p q) ≡ terms_value p +ℤ terms_value q
  unfolding terms_value
  sum_of_value none q = sym (+ℤ_idl (terms_value q))
  sum_of_value (term c m p) q =
      insert_value c m (sum_of p q)
      ∙ ap (λ (x : ℤ). c *ℤ vars_value m +ℤ x) (sum_of_value p q)
      ∙ sym (+ℤ_assoc (c *ℤ vars_value m) (terms_value p) (terms_value q))

  insert_var_value : (i : ℕ) (n : List ℕ) → vars_value (insert_var i n) ≡ at i *ℤ vars_value n
  unfolding vars_value
  insert_var_value i [] = refl
  insert_var_value i (j ∷ n) = go (insert_var_value i n) (leb i j)
    where
      go : vars_value (insert_var i n) ≡ at i *ℤ vars_value n → (b : Bool) →
          vars_value (elim b as (λ (x : Bool). List ℕ) [ true ↦ i ∷ j ∷ n | false ↦ j ∷ insert_var i n ])
          ≡ at i *ℤ (at j *ℤ vars_value n)
      go ih true = refl
      go ih false = ap (λ (x : ℤ). at j *ℤ x) ih ∙ *ℤ-left-comm (at j) (at i) (vars_value n)

  join_vars_value : (m n : List ℕ) → vars_value (join_vars m n) ≡ vars_value m *ℤ vars_value n
  unfolding vars_value
  join_vars_value [] n = sym (one_times (vars_value n))
  join_vars_value (i ∷ m) n =
      insert_var_value i (join_vars m n)
      ∙ ap (λ (x : ℤ). at i *ℤ x) (join_vars_value m n)
      ∙ sym (*ℤ-assoc (at i) (vars_value m) (vars_value n))

  times_term_value : (c : ℤ) (m : List ℕ) (q : Terms) → terms_value (times_term c m q) ≡ (c *ℤ vars_value m) *ℤ terms_value q
  unfolding terms_value
  times_term_value c m none = sym (*ℤ-zero (c *ℤ vars_value m))
  times_term_value c m (term d n q) =
      insert_value (c *ℤ d) (join_vars m n) (times_term c m q)
      ∙ ap (λ (x : ℤ). (c *ℤ d) *ℤ x +ℤ terms_value (times_term c m q)) (join_vars_value m n)
      ∙ ap (λ (x : ℤ). x +ℤ terms_value (times_term c m q)) (*ℤ-exchange c d (vars_value m) (vars_value n))
      ∙ ap (λ (x : ℤ). (c *ℤ vars_value m) *ℤ (d *ℤ vars_value n) +ℤ x) (times_term_value c m q)
      ∙ sym (*ℤ-+ℤ (c *ℤ vars_value m) (d *ℤ vars_value n) (terms_value q))

  product_of_value : (p q : Terms) → terms_value (product_of p q) ≡ terms_value p *ℤ terms_value q
  unfolding terms_value
  product_of_value none q = sym (zero-*ℤ (terms_value q))
  product_of_value (term c m p) q =
      sum_of_value (times_term c m q) (product_of p q)
      ∙ ap (λ (x : ℤ). x +ℤ terms_value (product_of p q)) (times_term_value c m q)
      ∙ ap (λ (x : ℤ). (c *ℤ vars_value m) *ℤ terms_value q +ℤ x) (product_of_value p q)
      ∙ sym (+ℤ-*ℤ (c *ℤ vars_value m) (terms_value p) (terms_value q))

  negation_of_value : (p : Terms) → terms_value (negation_of p) ≡ neg_ℤ (terms_value p)
  unfolding terms_value
  negation_of_value none = refl
  negation_of_value (term c m p) =
      ap (λ (x : ℤ). x +ℤ terms_value (negation_of p)) (neg_times c (vars_value m))
      ∙ ap (λ (x : ℤ). neg_ℤ (c *ℤ vars_value m) +ℤ x) (negation_of_value p)
      ∙ sym (neg_ℤ-+ℤ (c *ℤ vars_value m) (terms_value p))

  combined_value : (o : Op) (p q : Terms) → terms_value (combined o p q) ≡ apply o (terms_value p) (terms_value q)
  combined_value plus p q = sum_of_value p q
  combined_value minus p q = sum_of_value p (negation_of q) ∙ ap (λ (x : ℤ). terms_value p +ℤ x) (negation_of_value q)
  combined_value times p q = product_of_value p q

  -- the normal form has the expression's value
  normal_value : (a : Expr) → terms_value (normal a) ≡ value ρ a
  unfolding terms_value vars_value
  normal_value (var i) =
      +ℤ_idr (pos 1 *ℤ (at i *ℤ pos 1)) ∙ one_times (at i *ℤ pos 1) ∙ *ℤ_comm (at i) (pos 1) ∙ one_times (at i)
  normal_value (lit z) = keep_value z [] none ∙ +ℤ_idr (z *ℤ pos 1) ∙ *ℤ_comm z (pos 1) ∙ one_times z
  normal_value (op o a b) =
      combined_value o (normal a) (normal b)
      ∙ ap (λ (x : ℤ). apply o x (terms_value (normal b))) (normal_value a)
      ∙ ap (λ (x : ℤ). apply o (value ρ a) x) (normal_value b)

-- ---- the law that is used: the same normal form, the same value

pub identity : (a b : Expr) (ρ : List ℤ) → normal a ≡ normal b → value ρ a ≡ value ρ b
identity a b ρ e = sym (normal_value ρ a) ∙ ap (terms_value ρ) e ∙ normal_value ρ b

-- and so for lists of expressions
values_normal : (ρ : List ℤ) (es : List Expr) → map (value ρ) es ≡ map (terms_value ρ) (map normal es)
values_normal ρ [] = refl
values_normal ρ (e ∷ es) = λ t. sym (normal_value ρ e) t ∷ values_normal ρ es t

pub identities : (es fs : List Expr) (ρ : List ℤ) → map normal es ≡ map normal fs → map (value ρ) es ≡ map (value ρ) fs
identities es fs ρ e = values_normal ρ es ∙ ap (map (terms_value ρ)) e ∙ sym (values_normal ρ fs)
