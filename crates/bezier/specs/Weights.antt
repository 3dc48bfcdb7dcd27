-- What the inner functions hand on to each other. No public contract cites these.
use Rattle.std.specs.Prelude.{List, [], ◌∷◌, map, ℕ, zero, suc, ◌+◌, ◌*◌, ◌≤◌, get_or, set, ℤ, pos, ◌+ℤ◌, ◌*ℤ◌, nat_abs}
use Rattle.exact.specs.WeightedSum.{weighted_sum}
use Rattle.bezier.specs.declared.bezier.Terms.{Terms}

-- the weights over 36 of the 19 points, in document 01's order: those of ck, cn, cm at corner 1, at corner 2 and at
-- corner 3
abbrev pub bezier_rows : List (List ℤ)
bezier_rows =
    (pos 12 ∷ pos 12 ∷ pos 12 ∷ pos 0 ∷ pos 0 ∷ pos 0 ∷ pos 0 ∷ pos 0 ∷ pos 0 ∷ [])
    ∷ (pos 0 ∷ pos 0 ∷ pos 0 ∷ pos 12 ∷ pos 12 ∷ pos 12 ∷ pos 0 ∷ pos 0 ∷ pos 0 ∷ [])
    ∷ (pos 0 ∷ pos 0 ∷ pos 0 ∷ pos 0 ∷ pos 0 ∷ pos 0 ∷ pos 12 ∷ pos 12 ∷ pos 12 ∷ [])
    ∷ (pos 24 ∷ pos 6 ∷ pos 6 ∷ pos 0 ∷ pos 0 ∷ pos 0 ∷ pos 0 ∷ pos 0 ∷ pos 0 ∷ [])
    ∷ (pos 18 ∷ pos 18 ∷ pos 0 ∷ pos 0 ∷ pos 0 ∷ pos 0 ∷ pos 0 ∷ pos 0 ∷ pos 0 ∷ [])
    ∷ (pos 0 ∷ pos 0 ∷ pos 0 ∷ pos 18 ∷ pos 18 ∷ pos 0 ∷ pos 0 ∷ pos 0 ∷ pos 0 ∷ [])
    ∷ (pos 0 ∷ pos 0 ∷ pos 0 ∷ pos 24 ∷ pos 6 ∷ pos 6 ∷ pos 0 ∷ pos 0 ∷ pos 0 ∷ [])
    ∷ (pos 0 ∷ pos 0 ∷ pos 0 ∷ pos 0 ∷ pos 0 ∷ pos 0 ∷ pos 24 ∷ pos 6 ∷ pos 6 ∷ [])
    ∷ (pos 0 ∷ pos 0 ∷ pos 0 ∷ pos 0 ∷ pos 0 ∷ pos 0 ∷ pos 18 ∷ pos 18 ∷ pos 0 ∷ [])
    ∷ (pos 24 ∷ pos 12 ∷ pos 0 ∷ pos 0 ∷ pos 0 ∷ pos 0 ∷ pos 0 ∷ pos 0 ∷ pos 0 ∷ [])
    ∷ (pos 0 ∷ pos 0 ∷ pos 0 ∷ pos 24 ∷ pos 12 ∷ pos 0 ∷ pos 0 ∷ pos 0 ∷ pos 0 ∷ [])
    ∷ (pos 0 ∷ pos 0 ∷ pos 0 ∷ pos 0 ∷ pos 0 ∷ pos 0 ∷ pos 24 ∷ pos 12 ∷ pos 0 ∷ [])
    ∷ (pos 12 ∷ pos 3 ∷ pos 3 ∷ pos 9 ∷ pos 9 ∷ pos 0 ∷ pos 0 ∷ pos 0 ∷ pos 0 ∷ [])
    ∷ (pos 9 ∷ pos 9 ∷ pos 0 ∷ pos 0 ∷ pos 0 ∷ pos 0 ∷ pos 12 ∷ pos 3 ∷ pos 3 ∷ [])
    ∷ (pos 0 ∷ pos 0 ∷ pos 0 ∷ pos 12 ∷ pos 3 ∷ pos 3 ∷ pos 9 ∷ pos 9 ∷ pos 0 ∷ [])
    ∷ (pos 12 ∷ pos 6 ∷ pos 0 ∷ pos 12 ∷ pos 6 ∷ pos 0 ∷ pos 0 ∷ pos 0 ∷ pos 0 ∷ [])
    ∷ (pos 12 ∷ pos 6 ∷ pos 0 ∷ pos 0 ∷ pos 0 ∷ pos 0 ∷ pos 12 ∷ pos 6 ∷ pos 0 ∷ [])
    ∷ (pos 0 ∷ pos 0 ∷ pos 0 ∷ pos 12 ∷ pos 6 ∷ pos 0 ∷ pos 12 ∷ pos 6 ∷ pos 0 ∷ [])
    ∷ (pos 8 ∷ pos 4 ∷ pos 0 ∷ pos 8 ∷ pos 4 ∷ pos 0 ∷ pos 8 ∷ pos 4 ∷ pos 0 ∷ []) ∷ []

-- the 19 points in one coordinate of the values of ck, cn, cm at each corner
abbrev pub points_of : List ℤ → List ℤ
points_of values = map (λ (row : List ℤ). weighted_sum row values) bezier_rows

-- the terms of the corner whose ck, cn and cm stand at a place
abbrev pub terms_at : List ℤ → ℕ → Terms
terms_at values at =
    (let k = get_or values at (pos 0) in
    let n = get_or values (at + 1) (pos 0) in
    let m = get_or values (at + 2) (pos 0) in
    record {
      s = pos 12 *ℤ (k +ℤ n +ℤ m);
      ahead = pos 3 *ℤ (pos 4 *ℤ k +ℤ n +ℤ m);
      back = pos 9 *ℤ (k +ℤ n);
      v = pos 2 *ℤ k +ℤ n;
    })

-- how large the terms are where the values lie in the net range, 18 and 3 times its limit; the points then fit an i32
abbrev pub SmallTerms : Terms → Type 0
SmallTerms t = (nat_abs t.ahead ≤ 301989888) × (nat_abs t.back ≤ 301989888) × (nat_abs t.v ≤ 50331648)

-- the 19 points of the terms of the three corners
abbrev pub joined_terms : (p q t : Terms) → List ℤ
joined_terms p q t =
    p.s ∷ q.s ∷ t.s
    ∷ (pos 2 *ℤ p.ahead) ∷ (pos 2 *ℤ p.back) ∷ (pos 2 *ℤ q.back)
    ∷ (pos 2 *ℤ q.ahead) ∷ (pos 2 *ℤ t.ahead) ∷ (pos 2 *ℤ t.back)
    ∷ (pos 12 *ℤ p.v) ∷ (pos 12 *ℤ q.v) ∷ (pos 12 *ℤ t.v)
    ∷ (p.ahead +ℤ q.back) ∷ (p.back +ℤ t.ahead) ∷ (q.ahead +ℤ t.back)
    ∷ (pos 6 *ℤ (p.v +ℤ q.v)) ∷ (pos 6 *ℤ (p.v +ℤ t.v)) ∷ (pos 6 *ℤ (q.v +ℤ t.v))
    ∷ (pos 4 *ℤ (p.v +ℤ q.v +ℤ t.v)) ∷ []

-- a list with the first n of the numbers stored in it three places apart, from place x on
unfoldable pub placed : ℕ → ℕ → List ℤ → List ℤ → List ℤ
placed zero x numbers out = out
placed (suc n) x numbers out = set (placed n x numbers out) (3 * n + x) (get_or numbers n (pos 0))

-- the numbers at n of three lists
abbrev pub three_at : List ℤ → List ℤ → List ℤ → ℕ → List ℤ
three_at xs ys zs n = get_or xs n (pos 0) ∷ get_or ys n (pos 0) ∷ get_or zs n (pos 0) ∷ []
