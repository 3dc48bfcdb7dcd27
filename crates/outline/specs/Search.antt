-- What the search for connected triangles keeps: links between the bytes of present triangles. No public contract cites
-- these.
use Rattle.std.specs.Prelude.{◌≡◌, refl, Bool, true, false, ◌&&◌, List, [], ◌∷◌, ℕ, ◌≤◌, ◌<◌, eqb, length}
use Rattle.std.proofs.Common.{lit≤}
use Rattle.net.specs.Net.{Triangle, triangle_at}
use Rattle.net.specs.Refusals.{bad_size}
use Rattle.graphs.specs.Links.{link, Held, Grown, SameRoot, count_below}
use Rattle.outline.specs.Outline.{triangles, byte_of, present_at, Present}
use Rattle.outline.specs.Connected.{along_e1, along_e3, Shared}

-- an edge that two present triangles share, by their bytes
pub record Edge (outline : List ℕ) (w h a b : ℕ) : Type 0 where
  pub first : Triangle
  pub second : Triangle
  pub shared : Shared (Present outline w h) first second
  pub first_byte : a ≡ byte_of w first
  pub second_byte : b ≡ byte_of w second

-- the net's triangles have a byte and a link each, and the links lead along walks
pub record Searched (outline : List ℕ) (w h : ℕ) (links : List ℕ) : Type 0 where
  pub size : bad_size w h ≡ false
  pub long : triangles w h ≤ length outline
  pub room : length links ≡ triangles w h
  pub held : Held (Edge outline w h) links

-- both triangles on an edge have one root, where the edge's first triangle is in a set
abbrev pub JoinedFrom : (Triangle → Type 0) → List ℕ → ℕ → ℕ → List ℕ → Type 0
JoinedFrom In outline w h links =
    (t u : Triangle) → In t → Shared (Present outline w h) t u → SameRoot links (byte_of w t) (byte_of w u)

-- the first triangle of an edge is in cell (i, j), in row j before column i, in row j, in a row before j
abbrev pub InCell : ℕ → ℕ → Triangle → Type 0
InCell i j t = (t.column ≡ i) × (t.row ≡ j)

abbrev pub InRowBefore : ℕ → ℕ → Triangle → Type 0
InRowBefore i j t = (t.column < i) × (t.row ≡ j)

abbrev pub InRow : ℕ → Triangle → Type 0
InRow j t = t.row ≡ j

abbrev pub InRowsBefore : ℕ → Triangle → Type 0
InRowsBefore j t = t.row < j

abbrev pub Anywhere : Triangle → Type 0
Anywhere t = Unit {0}

-- the links after the edges from a set are joined
pub record Joined (In : Triangle → Type 0) (outline : List ℕ) (w h : ℕ) (before after : List ℕ) : Type 0 where
  pub grown : Grown (Edge outline w h) before after
  pub joined : JoinedFrom In outline w h after

-- two bytes are joined where there is such an edge and both are present
abbrev pub joins : List ℕ → Bool → ℕ → ℕ → Bool
joins outline inside a b = inside && (present_at outline a && present_at outline b)

-- so many of the present triangles are roots
abbrev pub is_root : List ℕ → List ℕ → ℕ → Bool
is_root outline links t = present_at outline t && eqb (link links t) t

abbrev pub roots : List ℕ → List ℕ → ℕ → ℕ
roots outline links n = count_below n (is_root outline links)

-- worked cases: of 3 by 2 with the bytes 0, 1, 1, 0 the bytes 1 and 2 share an edge, and of 3 by 4 the bytes 5 and 8,
-- those of the down triangle of cell (0, 1) and of the up triangle of cell (0, 2); two bytes are joined, not where
-- there is no such edge, and not where one is missing; with the bytes 1, 0, 1, 1 and the links 0, 1, 0, 3 the numbers 0
-- and 3 are present roots
beside_in_row : Edge (0 ∷ 1 ∷ 1 ∷ 0 ∷ []) 3 2 1 2
beside_in_row =
    record {
      first = triangle_at 0 0 true;
      second = triangle_at 1 0 false;
      shared = (along_e3 0 0, ((lit≤ tt, lit≤ tt), refl), ((lit≤ tt, lit≤ tt), refl));
      first_byte = refl;
      second_byte = refl;
    }

above_in_column : Edge (0 ∷ 0 ∷ 0 ∷ 0 ∷ 0 ∷ 1 ∷ 0 ∷ 0 ∷ 1 ∷ 0 ∷ 0 ∷ 0 ∷ []) 3 4 5 8
above_in_column =
    record {
      first = triangle_at 0 1 true;
      second = triangle_at 0 2 false;
      shared = (along_e1 0 1, ((lit≤ tt, lit≤ tt), refl), ((lit≤ tt, lit≤ tt), refl));
      first_byte = refl;
      second_byte = refl;
    }

joined_bytes :
    (joins (0 ∷ 1 ∷ 1 ∷ []) true 1 2 ≡ true)
    × (joins (0 ∷ 1 ∷ 1 ∷ []) false 1 2 ≡ false)
    × (joins (0 ∷ 1 ∷ 1 ∷ []) true 0 2 ≡ false)
joined_bytes = (refl, refl, refl)

two_roots : roots (1 ∷ 0 ∷ 1 ∷ 1 ∷ []) (0 ∷ 1 ∷ 0 ∷ 3 ∷ []) 4 ≡ 2
unfolding count_below
two_roots = refl
