-- The seam by how many steps one half has more: the statement, with the name of its proof.
use Rattle.std.specs.Prelude.{◌≡◌, List, ℕ, ◌+◌, ◌*◌, ◌≤◌, ◌<◌, ℤ, nat_abs, ◌-ℤ◌}
use Rattle.net.specs.Net.{number}
use Rattle.places.specs.Places.{OnGrid}
use Rattle.spline.specs.Shares.{apart}
use Rattle.surface.specs.Answers.{point_answer}
use Rattle.subdivision.specs.Refinement.{side_after}
use Rattle.refine.specs.Answers.{refusal_of, refine_output}
use Rattle.seam.specs.Seam.{SamePlace}

-- the net after the greater number of steps is the other refined further. So the points that `Seam` speaks of differ by
-- at most (|k - l| + 2)/2 units, said doubled, which is never more than its (k + l + 2)/2 (`seam_by_depths`)
abbrev pub SeamByDepths : Type 0
SeamByDepths =
    (net : List ℤ) (w h k l : ℕ) (out scratch out2 scratch2 : List ℤ) →
    refusal_of net w h k out scratch ≡ 0 → refusal_of net w h l out2 scratch2 ≡ 0 →
    (p q p2 q2 : ℕ) → OnGrid 1024 (side_after k w) (side_after k h) p q → SamePlace k l p q p2 q2 → (x : ℕ) → x < 3 →
    2 * nat_abs (number (point_answer (refine_output net w h k out scratch) (side_after k w) (side_after k h) p q).1 x
    -ℤ number (point_answer (refine_output net w h l out2 scratch2) (side_after l w) (side_after l h) p2 q2).1 x)
    ≤ apart k l + 2
