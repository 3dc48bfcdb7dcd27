-- What the inner functions hand on to each other. No public contract cites these.
use Rattle.std.specs.Prelude.{◌≡◌, false, ◌||◌, List, [], ◌∷◌, ℕ, ◌≤◌, ltb, ℤ, length}
use Rattle.net.specs.Net.{OfNet}
use Rattle.net.specs.Refusals.{Fault, bad_size, short_net}
use Rattle.outline.specs.Outline.{triangles}
use Rattle.bezier.specs.Refusals.{no_triangle}
use Rattle.outlined_points.specs.Refusals.{triangle_by}

-- the rows of a net and of the triangle that is asked of it
abbrev pub triangle_faults : List ℤ → ℕ → ℕ → ℕ → ℕ → ℕ → List Fault
triangle_faults net w h i j down =
    (bad_size w h, 1) ∷ (no_triangle w h i j || ltb 1 down, 6) ∷ (short_net net w h, 2) ∷ []

-- what is known of a triangle whose byte is read
pub record AskedTriangle (outline : List ℕ) (w h i j down : ℕ) : Type 0 where
  pub size : bad_size w h ≡ false
  pub long : triangles w h ≤ length outline
  pub inside : OfNet w h (triangle_by i j down)
  pub kind : down ≤ 1
