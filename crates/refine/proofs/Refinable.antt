-- What is known where refining refuses nothing.
use mathlib.Core.Path.{◌≡◌}
use mathlib.Core.Bool.{false}
use mathlib.Core.List.{List, ◌++◌}
use Prim.Native.Nat.{ℕ, ◌≤◌}
use lib.Dec.{ltb, lit<}
use lib.IntN.{ℤ}
use borrow.Author.Tests.{ltb-false}
use Rattle.net.specs.Refusals.{bad_size, short_net, net_beyond, AcceptedNet}
use Rattle.net.proofs.Faults.{none_clear, or_none}
use Rattle.steps.specs.RefinedNet.{numbers_after, scratch_need}
use Rattle.steps.specs.Steps.{Depth}
use Rattle.refine.specs.Refusals.{too_deep, too_short, size_faults, net_faults, refine_refusal}
use Rattle.refine.proofs.Depths.{good_depth}

-- ---- where nothing is refused

pub record Refinable (net : List ℤ) (w h k room scratch_length : ℕ) : Type 0 where
  pub depth : Depth w h k
  pub given : AcceptedNet net w h
  pub roomy : numbers_after k w h ≤ room
  pub enough : scratch_need k w h ≤ scratch_length

pub refinable_by : (net : List ℤ) (w h k room scratch_length : ℕ) → bad_size w h ≡ false → too_deep w h k ≡ false →
    short_net net w h ≡ false →
    too_short w h k room scratch_length ≡ false → net_beyond net w h ≡ false → Refinable net w h k room scratch_length
refinable_by net w h k room scratch_length e₁ e₄ e₂ e₅ e₃ =
    let r = or_none (ltb room (numbers_after k w h)) (ltb scratch_length (scratch_need k w h)) e₅ in
    record {
      depth = good_depth w h k e₁ e₄;
      given = record { size = e₁; long = e₂; in_range = e₃ };
      roomy = ltb-false _ _ r.0;
      enough = ltb-false _ _ r.1;
    }

pub refine_accepted : (net : List ℤ) (w h k room scratch_length : ℕ) →
    refine_refusal net w h k (too_short w h k room scratch_length) ≡ 0 → Refinable net w h k room scratch_length
refine_accepted net w h k room scratch_length e =
    let c =
    none_clear (size_faults w h k ++ net_faults net w h (too_short w h k room scratch_length))
    (lit< tt, (lit< tt, (lit< tt, (lit< tt, (lit< tt, tt))))) e in
    refinable_by net w h k room scratch_length c.0 c.1.0 c.1.1.0 c.1.1.1.0 c.1.1.1.1.0
