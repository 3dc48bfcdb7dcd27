-- The rows before 5: those of the net, those of the outline and the last one follow one another, and the plain call's
-- rows from 5 on follow them.
use mathlib.Core.Path.{◌≡◌, refl, sym, ap, ◌∙◌}
use mathlib.Core.Bool.{Bool, true, false, ◌||◌, not, cond}
use mathlib.Core.List.{List, [], ◌∷◌, ◌++◌}
use Prim.Native.Nat.{ℕ}
use lib.Dec.{ltb, lit<}
use lib.IntN.{ℤ}
use Rattle.net.specs.Refusals.{Fault, first_fault, bad_size, short_net}
use Rattle.net.proofs.Faults.{fault_before, fault_after, Clear, none_clear, or_none, cond_true, cond_false}
use Rattle.places.specs.Refusals.{no_place}
use Rattle.outline.specs.Outline.{present}
use Rattle.door.specs.Door.{on_door}
use Rattle.bezier.specs.Refusals.{no_triangle}
use Rattle.outline.specs.Refusals.{outline_faults}
use Rattle.outlined_points.specs.Refusals.{triangle_by, point_faults, bezier_faults}
use Rattle.outlined_points.specs.Rows.{triangle_faults}

-- three lists of faults, one after the other: the first fault of the first one that has one
module _ (A B C : List Fault) {n : ℕ} where
  in_first : n ≡ first_fault A → (n ≡ 0 → ⊥) → n ≡ first_fault (A ++ (B ++ C))
  in_first e k = e ∙ fault_before A (B ++ C) (λ z. k (e ∙ z))

  in_second : Clear A → n ≡ first_fault B → (n ≡ 0 → ⊥) → n ≡ first_fault (A ++ (B ++ C))
  in_second a e k = e ∙ fault_before B C (λ z. k (e ∙ z)) ∙ fault_after A (B ++ C) a

  in_third : Clear A → Clear B → n ≡ first_fault C → n ≡ first_fault (A ++ (B ++ C))
  in_third a b e = e ∙ fault_after B C b ∙ fault_after A (B ++ C) a

-- where neither list has a fault, the rows after them count
pub past : (A B rest : List Fault) → Clear A → Clear B → first_fault (A ++ rest) ≡ first_fault (B ++ rest)
past A B rest a b = sym (fault_after A rest a) ∙ fault_after B rest b

-- 2 is one row of the net and of the outline
two_in_one : (s o : Bool) (r : ℕ) → cond s 2 (cond o 2 r) ≡ cond (s || o) 2 r
two_in_one true o r = refl
two_in_one false o r = refl

-- a list of one row: what is told where its test holds of what was found, and where it does not
module _ (m : ℕ) {found t : Bool} (e : found ≡ t) where
  not_there : found ≡ true → 0 ≡ first_fault ((not t, m) ∷ [])
  not_there k = cond_false (not t) m 0 (ap not (sym e ∙ k)) refl

  there : found ≡ false → m ≡ first_fault ((not t, m) ∷ [])
  there k = cond_true (not t) m 0 (ap not (sym e ∙ k))

-- ---- points

abbrev pub place_faults : List ℤ → ℕ → ℕ → ℕ → ℕ → List Fault
place_faults net w h p q = (bad_size w h, 1) ∷ (no_place 1024 w h p q, 6) ∷ (short_net net w h, 2) ∷ []

abbrev door_faults : List ℕ → ℕ → ℕ → ℕ → ℕ → List Fault
door_faults outline w h p q = (not (on_door 1024 outline w h p q), 15) ∷ []

module _ (net : List ℤ) (w h : ℕ) (outline : List ℕ) (p q : ℕ) where
  point_rows : first_fault (place_faults net w h p q ++ (outline_faults outline w h ++ door_faults outline w h p q))
      ≡ first_fault (point_faults net w h outline p q)
  point_rows = ap (λ (r : ℕ). cond (bad_size w h) 1 (cond (no_place 1024 w h p q) 6 r)) (two_in_one (short_net net w h) _ _)

  -- what each part of the code finds is the first fault
  pub place_row : {n : ℕ} → n ≡ first_fault (place_faults net w h p q) → (n ≡ 0 → ⊥) →
      n ≡ first_fault (point_faults net w h outline p q)
  place_row e k =
      in_first (place_faults net w h p q) (outline_faults outline w h) (door_faults outline w h p q) e k ∙ point_rows

  pub outline_row : {n : ℕ} → Clear (place_faults net w h p q) → n ≡ first_fault (outline_faults outline w h) →
      (n ≡ 0 → ⊥) → n ≡ first_fault (point_faults net w h outline p q)
  outline_row a e k =
      in_second (place_faults net w h p q) (outline_faults outline w h) (door_faults outline w h p q) a e k ∙ point_rows

  module _ (a : Clear (place_faults net w h p q)) (b : Clear (outline_faults outline w h)) {found : Bool}
      (e : found ≡ on_door 1024 outline w h p q) where
    pub on_the_door : found ≡ true → 0 ≡ first_fault (point_faults net w h outline p q)
    on_the_door k =
        in_third (place_faults net w h p q) (outline_faults outline w h) (door_faults outline w h p q) a b
        (not_there 15 e k) ∙ point_rows

    pub off_the_door : found ≡ false → 15 ≡ first_fault (point_faults net w h outline p q)
    off_the_door k =
        in_third (place_faults net w h p q) (outline_faults outline w h) (door_faults outline w h p q) a b (there 15 e k)
        ∙ point_rows

  pub clear_place : {n : ℕ} → n ≡ first_fault (place_faults net w h p q) → n ≡ 0 → Clear (place_faults net w h p q)
  clear_place e z = none_clear (place_faults net w h p q) (lit< tt, (lit< tt, (lit< tt, tt))) (sym e ∙ z)

  pub clear_point : {n : ℕ} → n ≡ first_fault (point_faults net w h outline p q) → n ≡ 0 →
      Clear (point_faults net w h outline p q)
  clear_point e z =
      none_clear (point_faults net w h outline p q) (lit< tt, (lit< tt, (lit< tt, (lit< tt, (lit< tt, tt))))) (sym e ∙ z)

  -- and then those of the place are not there either
  pub clear_plain : Clear (point_faults net w h outline p q) → Clear (place_faults net w h p q)
  clear_plain k = (k.0, (k.1.0, ((or_none (short_net net w h) _ k.1.1.0).0, tt)))

pub clear_outline : (outline : List ℕ) (w h : ℕ) {n : ℕ} → n ≡ first_fault (outline_faults outline w h) → n ≡ 0 →
    Clear (outline_faults outline w h)
clear_outline outline w h e z = none_clear (outline_faults outline w h) (lit< tt, (lit< tt, tt)) (sym e ∙ z)

-- ---- Bézier nets

abbrev missing_faults : List ℕ → ℕ → ℕ → ℕ → ℕ → List Fault
missing_faults outline w i j down = (not (present outline w (triangle_by i j down)), 15) ∷ []

-- the rows of the plain call before 5
abbrev pub plain_faults : List ℤ → ℕ → ℕ → ℕ → ℕ → List Fault
plain_faults net w h i j = (bad_size w h, 1) ∷ (no_triangle w h i j, 6) ∷ (short_net net w h, 2) ∷ []

module _ (net : List ℤ) (w h : ℕ) (outline : List ℕ) (i j down : ℕ) where
  bezier_rows_lem :
      first_fault (triangle_faults net w h i j down ++ (outline_faults outline w h ++ missing_faults outline w i j down))
      ≡ first_fault (bezier_faults net w h outline i j down)
  bezier_rows_lem =
      ap (λ (r : ℕ). cond (bad_size w h) 1 (cond (no_triangle w h i j || ltb 1 down) 6 r))
      (two_in_one (short_net net w h) _ _)

  pub triangle_row : {n : ℕ} → n ≡ first_fault (triangle_faults net w h i j down) → (n ≡ 0 → ⊥) →
      n ≡ first_fault (bezier_faults net w h outline i j down)
  triangle_row e k =
      in_first (triangle_faults net w h i j down) (outline_faults outline w h) (missing_faults outline w i j down) e k
      ∙ bezier_rows_lem

  pub net_outline_row : {n : ℕ} → Clear (triangle_faults net w h i j down) → n ≡ first_fault (outline_faults outline w h) →
      (n ≡ 0 → ⊥) → n ≡ first_fault (bezier_faults net w h outline i j down)
  net_outline_row a e k =
      in_second (triangle_faults net w h i j down) (outline_faults outline w h) (missing_faults outline w i j down) a e k
      ∙ bezier_rows_lem

  module _ (a : Clear (triangle_faults net w h i j down)) (b : Clear (outline_faults outline w h)) {found : Bool}
      (e : found ≡ present outline w (triangle_by i j down)) where
    pub not_missing : found ≡ true → 0 ≡ first_fault (bezier_faults net w h outline i j down)
    not_missing k =
        in_third (triangle_faults net w h i j down) (outline_faults outline w h) (missing_faults outline w i j down) a b
        (not_there 15 e k) ∙ bezier_rows_lem

    pub missing : found ≡ false → 15 ≡ first_fault (bezier_faults net w h outline i j down)
    missing k =
        in_third (triangle_faults net w h i j down) (outline_faults outline w h) (missing_faults outline w i j down) a b
        (there 15 e k) ∙ bezier_rows_lem

  pub clear_triangle : {n : ℕ} → n ≡ first_fault (triangle_faults net w h i j down) → n ≡ 0 →
      Clear (triangle_faults net w h i j down)
  clear_triangle e z = none_clear (triangle_faults net w h i j down) (lit< tt, (lit< tt, (lit< tt, tt))) (sym e ∙ z)

  pub clear_bezier : {n : ℕ} → n ≡ first_fault (bezier_faults net w h outline i j down) → n ≡ 0 →
      Clear (bezier_faults net w h outline i j down)
  clear_bezier e z =
      none_clear (bezier_faults net w h outline i j down) (lit< tt, (lit< tt, (lit< tt, (lit< tt, (lit< tt, tt)))))
      (sym e ∙ z)

  pub clear_plain_net : Clear (bezier_faults net w h outline i j down) → Clear (plain_faults net w h i j)
  clear_plain_net k =
      (k.0, ((or_none (no_triangle w h i j) _ k.1.0).0, ((or_none (short_net net w h) _ k.1.1.0).0, tt)))
