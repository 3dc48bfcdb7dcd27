-- The net through given points, vertex by vertex, and what is known where nothing is refused.
use mathlib.Core.Path.{◌≡◌, refl, sym, ap, ◌∙◌}
use mathlib.Core.Bool.{Bool, true, false}
use mathlib.Core.List.{List}
use Prim.Native.Nat.{ℕ, ◌+◌, ◌*◌, ◌≤◌, ◌<◌}
use native.Mathlib.Omega.{arith}
use lib.Dec.{lit<}
use lib.IntN.{ℤ}
use lib.ListN.{length}
use borrow.Author.Tests.{ltb-false}
use Rattle.exact.specs.Filling.{runs}
use Rattle.net.specs.Net.{vertex_of, numbers}
use Rattle.net.specs.Refusals.{net_limit, any_beyond, controls_beyond}
use Rattle.net.proofs.Faults.{none_clear}
use Rattle.net.proofs.Grids.{record_place}
use Rattle.net.proofs.Ranges.{any_in_runs}
use Rattle.steps.specs.RefinedNet.{triangle_of, vertex_run}
use Rattle.steps.proofs.StoredNets.{stored_by_number, stored_beyond}
use Rattle.hermite.specs.Given.{given_stride, given_numbers, vectors_at}
use Rattle.hermite.specs.HermiteNet.{hermite_fields, hermite_net}
use Rattle.hermite.specs.Sums.{sum_triangle, nine_of}
use Rattle.hermite.specs.Refusals.{hermite_beyond, given_faults, given_refusal, Enough, Fitting}

-- ---- vertex by vertex

-- the numbers of vertex n of the net
abbrev pub hermite_run : List ℤ → ℕ → ℕ → List ℤ
hermite_run given w n = vertex_run (hermite_fields given w) (vertex_of w n)

pub hermite_by_number : (given : List ℤ) (w h : ℕ) → hermite_net given w h ≡ runs (w * h) (hermite_run given w)
unfolding hermite_net
hermite_by_number given w h = stored_by_number (hermite_fields given w) w h

pub hermite_tested : (given : List ℤ) (w h : ℕ) →
    hermite_beyond given w h ≡ any_beyond (runs (w * h) (hermite_run given w))
unfolding hermite_net
hermite_tested given w h = stored_beyond (hermite_fields given w) w h

-- the given numbers of vertex n lie in the slice
pub given_vertex : (given : List ℤ) (w h n : ℕ) → Enough given w h → n < w * h →
    given_stride * n + given_stride ≤ length given
given_vertex given w h n e k = omega (arith, e.long, k)

-- the code's control triangle of vertex n is that of the net; its test, and where no control value is out of range
module _ (given : List ℤ) (w h n : ℕ) (here : n < w * h) where
  abbrev triangle : ℕ → List (List ℤ)
  triangle at = nine_of (sum_triangle (vectors_at given at))

  pub triangle_there : triangle (given_stride * n) ≡ triangle_of (hermite_fields given w) (vertex_of w n)
  triangle_there = ap triangle (sym (record_place given_stride w h n here))

  pub triangle_tested : controls_beyond (triangle (given_stride * n)) ≡ any_beyond (hermite_run given w n)
  triangle_tested = ap controls_beyond triangle_there

  pub triangle_in_range : hermite_beyond given w h ≡ false → controls_beyond (triangle (given_stride * n)) ≡ false
  triangle_in_range e = triangle_tested ∙ by (any_beyond (hermite_run given w n)) refl
    where
      by : (b : Bool) → any_beyond (hermite_run given w n) ≡ b → b ≡ false
      by true f = any_in_runs net_limit (w * h) (hermite_run given w) n here f ∙ sym (hermite_tested given w h) ∙ e
      by false f = refl

-- ---- where nothing is refused

pub fitting : (given : List ℤ) (w h room : ℕ) → given_refusal given w h room ≡ 0 → Fitting given w h × (numbers w h ≤ room)
fitting given w h room e =
    let c = none_clear (given_faults given w h room) (lit< tt, (lit< tt, (lit< tt, (lit< tt, tt)))) e in (
      record {
        enough = record { size = c.0; long = ltb-false (length given) (given_numbers w h) c.1.0 };
        fine = c.1.1.1.0;
      },
      ltb-false room (numbers w h) c.1.1.0,
    )
