-- Whether a place lies in a triangle, and whether it lies in a present one: the truth values tell it.
use mathlib.Core.Path.{◌≡◌, sym, ap, ◌∙◌}
use mathlib.Core.Bool.{Bool, true, false, ◌&&◌, and-eq-true_iff, true≢false}
use Prim.Native.Nat.{ℕ, ◌≤◌}
use lib.Dec.{leb}
use borrow.Author.Tests.{leb-true, le-leb}
use Rattle.places.specs.Places.{LiesBy}
use Rattle.graphs.proofs.Tests.{both}
use Rattle.graphs.proofs.Reaching.{any_some, any_yes}
use Rattle.outline.specs.Outline.{triangles, byte_of, triangle_of, present_at}
use Rattle.outline.proofs.Numbers.{byte_below, triangle_of_byte, triangle_of_net, byte_of_triangle}
use Rattle.door.specs.Door.{lies_by, lies_in, on_door}
use Rattle.door.specs.Promises.{LiesTold, OnDoorJudged}

all_three : (a b c : Bool) → (a && b && c) ≡ true → (a ≡ true) × (b ≡ true) × (c ≡ true)
all_three a b c e =
    let k = (and-eq-true_iff (a && b) c).0 e in
    let l = (and-eq-true_iff a b).0 k.0 in
    (l.0, l.1, k.1)

three_tests : {a b c d e f : ℕ} → (leb a b && leb c d && leb e f) ≡ true → (a ≤ b) × (c ≤ d) × (e ≤ f)
three_tests {a} {b} {c} {d} {e} {f} t =
    let k = all_three (leb a b) (leb c d) (leb e f) t in
    (leb-true a b k.0, leb-true c d k.1, leb-true e f k.2)

tests_hold : {a b c d e f : ℕ} → a ≤ b → c ≤ d → e ≤ f → (leb a b && leb c d && leb e f) ≡ true
tests_hold {a} {b} {c} {d} {e} {f} k l m =
    both (leb a b && leb c d) (leb e f) (both (leb a b) (leb c d) (le-leb a b k) (le-leb c d l)) (le-leb e f m)

pub lies_told : LiesTold
lies_told D p q t = (yes t.down, no t.down)
  where
    yes : (down : Bool) → lies_by down D p q t.column t.row ≡ true → LiesBy down D p q t.column t.row
    yes false e = three_tests e
    yes true e = three_tests e

    no : (down : Bool) → LiesBy down D p q t.column t.row → lies_by down D p q t.column t.row ≡ true
    no false l = tests_hold l.0 l.1 l.2
    no true l = tests_hold l.0 l.1 l.2

pub on_door_judged : OnDoorJudged
unfolding on_door
on_door_judged D outline w h p q _ _ =
    record {
      told = λ e.
          let k = any_some (triangles w h) has e in
          let n = k.0 in
          let b = (and-eq-true_iff (present_at outline n) (lies_in D p q (triangle_of w n))).0 k.2 in
          record {
            triangle = triangle_of w n;
            has = (
              triangle_of_net w h n k.1,
              ap (present_at outline) (byte_of_triangle w h n k.1) ∙ b.0,
            );
            lies = (lies_told D p q (triangle_of w n)).0 b.1;
          };
      denied = λ e o.
          let t = o.triangle in
          let there : has (byte_of w t) ≡ true =
          both (present_at outline (byte_of w t)) (lies_in D p q (triangle_of w (byte_of w t))) o.has.1
          (ap (lies_in D p q) (triangle_of_byte w h t o.has.0) ∙ (lies_told D p q t).1 o.lies) in
          true≢false (sym (any_yes (triangles w h) has (byte_of w t) (byte_below w h t o.has.0) there) ∙ e);
    }
  where
    has : ℕ → Bool
    has n = present_at outline n && lies_in D p q (triangle_of w n)
