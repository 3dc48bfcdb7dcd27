-- Laws of the search: the joins of a cell join its edges, cell after cell joins all, and then the present triangles are
-- connected exactly where one of them is the only root.
use mathlib.Core.Path.{◌≡◌, refl, sym, ap, subst, ◌∙◌}
use mathlib.Core.Bool.{Bool, true, false, ◌&&◌, and-eq-true_iff}
use mathlib.Core.List.{List, [], ◌∷◌}
use mathlib.Core.Logic.{◌⊎◌, inl, inr, ⊎_elim}
use Prim.Native.Nat.{ℕ, ◌+◌, ◌-◌, ◌*◌, ◌≤◌, ◌<◌}
use native.Mathlib.Omega.{arith}
use native.Mathlib.Decide.{dec_lt}
use lib.Dec.{ltb, eqb}
use lib.ListN.{length}
use borrow.Author.Tests.{eqb-true, eqb-false, eq-eqb, ltb-true, lt-ltb}
use Rattle.exact.specs.Filling.{runs}
use Rattle.net.specs.Net.{Triangle, triangle_at, OfNet}
use Rattle.net.specs.Refusals.{bad_size}
use Rattle.graphs.specs.Walks.{Walk, start, step, Judged}
use Rattle.graphs.specs.Links.{link, Linked, Root, here, Held, Grown, SameRoot, JoinedIf}
use Rattle.graphs.proofs.WalkLaws.{walk_on, walk_back, along_edge, walk_stays, walk_map}
use Rattle.graphs.proofs.LinkLaws.{root_below, root_stays, some_root, walk_up, same_along, own_length, own_held, grown_none, grown_more, join_grown_if, ExactlyOne, count_one, one_counted}
use Rattle.outline.specs.Outline.{triangles, byte_of, triangle_of, present_at, Present}
use Rattle.outline.specs.Connected.{Adjacent, along_e1, along_e2, along_e3, Shared, Connected}
use Rattle.outline.specs.Search.{Edge, Searched, JoinedFrom, InCell, InRowBefore, InRow, InRowsBefore, Anywhere, Joined, joins, is_root, roots}
use Rattle.outline.proofs.Numbers.{byte_below, byte_once, triangle_of_net, byte_of_triangle, few_triangles, cell_bytes}

-- the cells passed, with the next one, and the rows passed, with the next one
pub next_cell : (i j : ℕ) (t : Triangle) → InRowBefore (i + 1) j t → InRowBefore i j t ⊎ InCell i j t
next_cell i j t (b, e) = go (dec_lt t.column i)
  where
    go : Dec (t.column < i) → InRowBefore i j t ⊎ InCell i j t
    go (yes d) = inl (d, e)
    go (no d) = inr (omega arith, e)

pub next_row : (j : ℕ) (t : Triangle) → InRowsBefore (j + 1) t → InRowsBefore j t ⊎ InRow j t
next_row j t b = go (dec_lt t.row j)
  where
    go : Dec (t.row < j) → InRowsBefore j t ⊎ InRow j t
    go (yes d) = inl d
    go (no d) = inr (omega arith)

module _ (outline : List ℕ) (w h : ℕ) where
  abbrev E : ℕ → ℕ → Type 0
  E = Edge outline w h

  abbrev P : Triangle → Type 0
  P = Present outline w h

  -- a present byte of the net
  abbrev In : ℕ → Type 0
  In a = (a < triangles w h) × (present_at outline a ≡ true)

  present_in : (t : Triangle) → P t → In (byte_of w t)
  present_in t p = (byte_below w h t p.0, p.1)

  edge_of : (t u : Triangle) → Shared P t u → E (byte_of w t) (byte_of w u)
  edge_of t u s = record { first = t; second = u; shared = s; first_byte = refl; second_byte = refl }

  edge_ends : (a b : ℕ) → E a b → In a × In b
  edge_ends a b e =
      let s = e.shared in (
        subst In (sym e.first_byte) (present_in e.first s.1),
        subst In (sym e.second_byte) (present_in e.second s.2),
      )

  -- ---- joins one after the other

  -- at first each byte links to itself
  pub searched_first : {l : List ℕ} (n : ℕ) → bad_size w h ≡ false → triangles w h ≤ length outline → n ≡ triangles w h →
      l ≡ runs n (λ t. t ∷ []) → Searched outline w h l
  searched_first n size long room e =
      record {
        size = size;
        long = long;
        room = ap length e ∙ own_length n ∙ room;
        held = subst (λ (l : List ℕ). Held E l) (sym e) (own_held n);
      }

  pub searched_on : {l m : List ℕ} → Searched outline w h l → Grown E l m → Searched outline w h m
  searched_on s g =
      record { size = s.size; long = s.long; room = g.keeps.0 ∙ s.room; held = g.held }

  pub joined_none : {Q : Triangle → Type 0} {l : List ℕ} → Searched outline w h l → ((t : Triangle) → Q t → ⊥) →
      Joined Q outline w h l l
  joined_none s none = record { grown = grown_none s.held; joined = λ t u q e. absurd (none t q) }

  pub joined_more : {Q R S : Triangle → Type 0} {l m n : List ℕ} → Searched outline w h l →
      Joined Q outline w h l m → Joined R outline w h m n → ((t : Triangle) → OfNet w h t → S t → Q t ⊎ R t) →
      Joined S outline w h l n
  joined_more {Q} {R} {S} {l} {m} {n} s x y cover =
      let long = x.grown.keeps.0 ∙ s.room in
      record {
        grown = grown_more x.grown y.grown;
        joined = λ t u q e. ⊎_elim
            (λ (k : Q t). y.grown.keeps.1 (byte_of w t) (byte_of w u)
            (omega (arith, long, byte_below w h t e.1.0)) (omega (arith, long, byte_below w h u e.2.0))
            (x.joined t u k e))
            (λ (k : R t). y.joined t u k e)
            (cover t e.1.0 q);
      }

  pub joined_all : {Q R : Triangle → Type 0} {l m : List ℕ} → Joined Q outline w h l m →
      ((t : Triangle) → OfNet w h t → R t → Q t) → Joined R outline w h l m
  joined_all x cover = record { grown = x.grown; joined = λ t u r e. x.joined t u (cover t e.1.0 r) e }

  -- ---- the joins of a cell

  -- the links have grown, and both triangles on an edge have one root
  abbrev pub JoinsEdge : Triangle → Triangle → List ℕ → List ℕ → Type 0
  JoinsEdge t u l m = Grown E l m × (P t → P u → SameRoot m (byte_of w t) (byte_of w u))

  -- one edge: `inside` tells whether its second triangle is one of the net
  edge_joined : {l m : List ℕ} (inside : Bool) {a b : ℕ} (t u : Triangle) → Searched outline w h l → Adjacent t u →
      OfNet w h t → (inside ≡ true → OfNet w h u) → (OfNet w h u → inside ≡ true) → a ≡ byte_of w t → b ≡ byte_of w u →
      JoinedIf (joins outline inside a b) l m a b → JoinsEdge t u l m
  edge_joined {l} {m} inside {a} {b} t u s adjacent o to from e f j =
      let g = join_grown_if (joins outline inside a b) s.held edge j in
      (g.0, λ p q. subst (λ (x : ℕ × ℕ). SameRoot m x.0 x.1) (λ k. (e k, f k)) (g.1 (told p q)))
    where
      edge : joins outline inside a b ≡ true → (a < length l) × (b < length l) × Walk E a b
      edge y =
          let x = (and-eq-true_iff inside (present_at outline a && present_at outline b)).0 y in
          let z = (and-eq-true_iff (present_at outline a) (present_at outline b)).0 x.1 in
          let p : P t = (o, subst (λ (n : ℕ). present_at outline n ≡ true) e z.0) in
          let q : P u = (to x.0, subst (λ (n : ℕ). present_at outline n ≡ true) f z.1) in (
            omega (arith, e, byte_below w h t p.0, s.room),
            omega (arith, f, byte_below w h u q.0, s.room),
            along_edge (record { first = t; second = u; shared = (adjacent, p, q); first_byte = e; second_byte = f }),
          )

      told : P t → P u → joins outline inside a b ≡ true
      told p q =
          let first : present_at outline a ≡ true = subst (λ (n : ℕ). present_at outline n ≡ true) (sym e) p.1 in
          let second : present_at outline b ≡ true = subst (λ (n : ℕ). present_at outline n ≡ true) (sym f) q.1 in
          λ k. from q.0 k && (first k && second k)

  -- the edges whose first triangle is in a cell are its three
  edges_of_cell : (i j : ℕ) (F : Triangle → Triangle → Type 0) → F (triangle_at i j false) (triangle_at i j true) →
      F (triangle_at i j true) (triangle_at (i + 1) j false) → F (triangle_at i j true) (triangle_at i (j + 1) false) →
      (t u : Triangle) → Adjacent t u → InCell i j t → F t u
  edges_of_cell i j F a b c _ _ (along_e2 k l) (e, f) =
      subst (λ (x : ℕ × ℕ). F (triangle_at x.0 x.1 false) (triangle_at x.0 x.1 true))
      (λ t. (sym e t, sym f t)) a
  edges_of_cell i j F a b c _ _ (along_e3 k l) (e, f) =
      subst (λ (x : ℕ × ℕ). F (triangle_at x.0 x.1 true) (triangle_at (x.0 + 1) x.1 false))
      (λ t. (sym e t, sym f t)) b
  edges_of_cell i j F a b c _ _ (along_e1 k l) (e, f) =
      subst (λ (x : ℕ × ℕ). F (triangle_at x.0 x.1 true) (triangle_at x.0 (x.1 + 1) false))
      (λ t. (sym e t, sym f t)) c

  -- the links and bytes that a join asks for
  pub can_join : {l : List ℕ} {inside : Bool} {a b : ℕ} → Searched outline w h l →
      (inside ≡ true → (a < triangles w h) × (b < triangles w h)) →
      (length l ≤ length outline) × (length l ≤ 2097152) × Linked l
      × (inside ≡ true → (a < length l) × (b < length l))
  can_join {l} {inside} {a} {b} s f = (
    omega (arith, s.room, s.long),
    omega (arith, s.room, few_triangles w h s.size),
    s.held.linked,
    λ e.
        let x = f e in
        (omega (arith, x.0, s.room), omega (arith, x.1, s.room)),
  )

  module _ (i j : ℕ) (p : i + 2 ≤ w) (q : j + 2 ≤ h) where
    abbrev at : ℕ
    at = 2 * (j * (w - 1) + i)

    abbrev up : Triangle
    up = triangle_at i j false

    abbrev down : Triangle
    down = triangle_at i j true

    abbrev beside : Triangle
    beside = triangle_at (i + 1) j false

    abbrev above : Triangle
    above = triangle_at i (j + 1) false

    -- the three joins of a cell, along e2, e3 and e1

    pub own_joined : {l m : List ℕ} → Searched outline w h l →
        JoinedIf (joins outline true at (at + 1)) l m at (at + 1) → JoinsEdge up down l m
    own_joined s = edge_joined true up down s (along_e2 i j) (p, q) (λ _. (p, q)) (λ _. refl) (omega arith) refl

    pub beside_joined : {l m : List ℕ} → Searched outline w h l →
        JoinedIf (joins outline (ltb (i + 2) w) (at + 1) (at + 2)) l m (at + 1) (at + 2) → JoinsEdge down beside l m
    beside_joined s =
        edge_joined (ltb (i + 2) w) down beside s (along_e3 i j) (p, q)
        (λ e. (omega (arith, ltb-true (i + 2) w e), q)) (λ o. lt-ltb (i + 2) w (omega (arith, o.0))) refl
        (cell_bytes w h i j p q).beside_byte

    pub above_joined : {l m : List ℕ} → Searched outline w h l →
        JoinedIf (joins outline (ltb (j + 2) h) (at + 1) (at + 2 * (w - 1))) l m (at + 1) (at + 2 * (w - 1)) →
        JoinsEdge down above l m
    above_joined s =
        edge_joined (ltb (j + 2) h) down above s (along_e1 i j) (p, q)
        (λ e. (p, omega (arith, ltb-true (j + 2) h e))) (λ o. lt-ltb (j + 2) h (omega (arith, o.1))) refl
        (cell_bytes w h i j p q).above_byte

    pub cell_joined : {k l m n : List ℕ} → Searched outline w h k → JoinsEdge up down k l → JoinsEdge down beside l m →
        JoinsEdge down above m n → Joined (InCell i j) outline w h k n
    cell_joined {k} {l} {m} {n} s x y z =
        let after = searched_on s x.0 in
        let last = searched_on after y.0 in
        record {
          grown = grown_more x.0 (grown_more y.0 z.0);
          joined = λ t u c e. edges_of_cell i j (λ a b. P a → P b → SameRoot n (byte_of w a) (byte_of w b))
              (λ a b. kept m n last z.0 up down a b (kept l m after y.0 up down a b (x.1 a b)))
              (λ a b. kept m n last z.0 down beside a b (y.1 a b))
              z.1 t u e.0 c e.1 e.2;
        }
      where
        kept : (a b : List ℕ) → Searched outline w h a → Grown E a b → (t u : Triangle) → P t → P u →
            SameRoot a (byte_of w t) (byte_of w u) → SameRoot b (byte_of w t) (byte_of w u)
        kept a b s g t u p q =
            g.keeps.1 (byte_of w t) (byte_of w u) (omega (arith, s.room, byte_below w h t p.0))
            (omega (arith, s.room, byte_below w h u q.0))

  -- ---- walks on bytes and on triangles

  walk_on_bytes : {t u : Triangle} → Walk (Shared P) t u → Walk E (byte_of w t) (byte_of w u)
  walk_on_bytes = walk_map (byte_of w) edge_of

  walk_on_triangles : (t : Triangle) → OfNet w h t → {b : ℕ} → Walk E (byte_of w t) b →
      (u : Triangle) → OfNet w h u → b ≡ byte_of w u → Walk (Shared P) t u
  walk_on_triangles t o start u p e = subst (λ (x : Triangle). Walk (Shared P) t x) (byte_once w h t u o p e) start
  walk_on_triangles t o (step a b x d) u p e =
      ⊎_elim
      (λ (y : E a b). subst (λ (z : Triangle). Walk (Shared P) t z)
      (byte_once w h y.second u y.shared.2.0 p (sym y.second_byte ∙ e))
      (step y.first y.second (walk_on_triangles t o x y.first y.shared.1.0 y.first_byte)
      (inl y.shared)))
      (λ (y : E b a). subst (λ (z : Triangle). Walk (Shared P) t z)
      (byte_once w h y.first u y.shared.1.0 p (sym y.first_byte ∙ e))
      (step y.second y.first (walk_on_triangles t o x y.second y.shared.2.0 y.second_byte)
      (inr y.shared)))
      d

  -- ---- told by counting the roots

  -- a present triangle of a byte
  present_of : (a : ℕ) → In a → (t : Triangle) × P t × (a ≡ byte_of w t)
  present_of a i =
      let e = byte_of_triangle w h a i.0 in
      (triangle_of w a, (triangle_of_net w h a i.0, ap (present_at outline) e ∙ i.1), sym e)

  module _ (links : List ℕ) (s : Searched outline w h links) (all : JoinedFrom Anywhere outline w h links) where
    abbrev OneRoot : Type 0
    OneRoot = ExactlyOne (length links) (is_root outline links)

    -- a present byte has a root, which is present
    present_root : (a : ℕ) → In a → (r : ℕ) × (r < length links) × Root links a r × (is_root outline links r ≡ true)
    present_root a i =
        let inside : a < length links = omega (arith, i.0, s.room) in
        let x = some_root links s.held.linked a inside in
        let r = x.0 in
        let there = walk_stays edge_ends (walk_up s.held inside x.1) i in (
          r,
          omega (arith, inside, root_below x.1),
          x.1,
          λ k. there.1 k && eq-eqb (link links r) r (root_stays x.1) k,
        )

    -- and so a walk leads from it to the only root
    to_root : (x : OneRoot) (a : ℕ) → In a → Walk E a x.which
    to_root x a i =
        let r = present_root a i in
        subst (λ (b : ℕ). Walk E a b) (x.only r.0 r.1 r.3)
        (walk_up s.held (omega (arith, i.0, s.room)) r.2)

    to_connected : OneRoot → Connected outline w h
    to_connected x =
        let t = present_of x.which (
          omega (arith, x.below, s.room),
          ((and-eq-true_iff (present_at outline x.which)
              (eqb (link links x.which) x.which)).0 x.holds).0,
        ) in (
          (t.0, t.1),
          λ a b p q. walk_on_triangles a p.0
              (walk_on (to_root x (byte_of w a) (present_in a p)) (walk_back (to_root x (byte_of w b) (present_in b q))))
              b q.0 refl,
        )

    same_on_edges : (a b : ℕ) → E a b → (a < length links) × (b < length links) × SameRoot links a b
    same_on_edges a b e =
        let ends = edge_ends a b e in (
          omega (arith, ends.0.0, s.room),
          omega (arith, ends.1.0, s.room),
          subst (λ (x : ℕ × ℕ). SameRoot links x.0 x.1) (λ k. (sym e.first_byte k, sym e.second_byte k))
              (all e.first e.second tt e.shared),
        )

    from_connected : Connected outline w h → OneRoot
    from_connected c =
        let t = c.0.0 in
        let r = present_root (byte_of w t) (present_in t c.0.1) in
        record { which = r.0; below = r.1; holds = r.3; only = λ b k y. only t c.0.1 r.0 r.2 b k y }
      where
        only : (t : Triangle) → P t → (r : ℕ) → Root links (byte_of w t) r → (b : ℕ) → b < length links →
            is_root outline links b ≡ true → b ≡ r
        only t p r x b k y =
            let z = (and-eq-true_iff (present_at outline b) (eqb (link links b) b)).0 y in
            let u = present_of b (omega (arith, k, s.room), z.0) in
            let walk = walk_on_bytes (c.1 t u.0 p u.1) in
            let same = same_along links s.held.linked same_on_edges
            (omega (arith, byte_below w h t p.0, s.room)) walk in
            sym (same.1 r b x (subst (λ (n : ℕ). Root links n b) u.2 (here b (eqb-true (link links b) b z.1))))

    -- the present triangles are connected exactly where one of them is the only root
    pub search_judged : Judged (Connected outline w h) (eqb (roots outline links (length links)) 1)
    search_judged =
        let f = is_root outline links in
        let n = length links in
        record {
          told = λ e. to_connected (count_one n f (eqb-true (roots outline links n) 1 e));
          denied = λ e c. eqb-false (roots outline links n) 1 e (one_counted n f (from_connected c));
        }
