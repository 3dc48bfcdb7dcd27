-- `listing_text::pieces::list_piece` meets its contract: the first line, or that of vertex n - 1, whose point is not
-- refused.
use mathlib.Core.Path.{◌≡◌, sym, ap, ◌∙◌}
use mathlib.Core.List.{List}
use Prim.Native.Nat.{ℕ, ◌-◌, ◌*◌, ◌/◌, ◌%◌, ◌^◌, ◌≤◌, ◌<◌}
use native.Mathlib.Nat.{le_trans}
use native.Mathlib.Omega.{arith}
use lib.IntN.{ℤ, nat_abs}
use lib.ListN.{length}
use lib.Signed.{mag}
use mir.Syntax.{w32}
use mir.Val.{to_z, of_z}
use Rattle.exact.proofs.Sizes.{size_of_fits}
use Rattle.exact.proofs.SignedCode.{reads_back, reads_as}
use Rattle.net.proofs.Places.{GoodSize, good_size}
use Rattle.surface.specs.SurfacePoint.{coordinate}
use Rattle.surface.specs.Refusals.{point_refusal}
use Rattle.decimal.proofs.StoringLaws.{stored_as, stored_line}
use Rattle.listing_text.specs.Listing.{head_line, point_line, piece_text, longest_line}
use Rattle.listing_text.proofs.LineLaws.{head_length, point_length}
use Rattle.listing_text.proofs.PieceLaws.{vertex_accepted, point_outcome_lem, not_refused, vertex_column, vertex_row, first_piece, vertex_piece}
use Rattle.surface.specs.declared.answers.Point.{Point}
use Rattle.listing_text.proofs.pieces.list_piece.Goals as goal
use Rattle.listing_text.proofs.pieces.list_piece.Goals.{After-struct_told-in-Ok-2-1, Else-n-eq0, Start}

-- the sides of an accepted net
size : (c : Start) → GoodSize c.args.w c.args.h
size c = good_size c.args.w c.args.h c.requires.0.size

short_head : (c : Start) → length (head_line c.args.w c.args.h) ≤ longest_line
short_head c =
    let s = size c in
    head_length c.args.w c.args.h (omega (arith, s.narrow)) (omega (arith, s.low))

-- the vertex of a piece above 0
module _ (c : Else-n-eq0) where
  abbrev start : Start
  start = (goal.at.Else-n-eq0 c).Start

  abbrev net : List ℤ
  net = start.args.net.now

  abbrev w : ℕ
  w = start.args.w

  abbrev h : ℕ
  h = start.args.h

  abbrev n : ℕ
  n = start.args.n

  abbrev i : ℕ
  i = (n - 1) % w

  abbrev j : ℕ
  j = (n - 1) / w

  -- its place
  abbrev p : ℕ
  p = 1024 * i

  abbrev q : ℕ
  q = 1024 * j

  above : 0 < n
  above = omega (arith, c.if-n-eq0.false)

  wide : 0 < w
  wide = omega (arith, (size start).wide)

  column : i < w
  column = vertex_column w (n - 1) wide

  row : j < h
  row = vertex_row w h (n - 1) wide (omega (arith, above, start.requires.1))

  taken : point_refusal net w h p q ≡ 0
  taken = vertex_accepted net w h start.requires.0 i j column row

-- its line, with the numbers as they are handed on
module _ (c : After-struct_told-in-Ok-2-1) where
  abbrev e : Else-n-eq0
  e = (goal.at.After-struct_told-in-Ok-2-1 c).Else-n-eq0

  abbrev point : Point
  point = c.in-Ok.point

  outcome : (point.x ≡ coordinate (net e) (w e) (h e) (p e) (q e) 0)
      × (point.y ≡ coordinate (net e) (w e) (h e) (p e) (q e) 1)
      × (point.z ≡ coordinate (net e) (w e) (h e) (p e) (q e) 2)
  outcome =
      point_outcome_lem (net e) (w e) (h e) (p e) (q e) (taken e) c.in-Ok.ensures

  abbrev held : ℤ → ℤ
  held z = to_z w32 (of_z w32 z)

  abbrev line : List ℕ
  line = point_line (i e) (j e) (held point.x) (held point.y) (held point.z)

  line_is : line ≡ piece_text (net e) (w e) (h e) (n e)
  line_is =
      let fits = c.struct_told-in-Ok-2-1.given in
      let x = reads_as w32 point.x fits.0.1 outcome.0 in
      let y = reads_as w32 point.y fits.1.0.1 outcome.1 in
      let z = reads_as w32 point.z fits.1.1.0.1 outcome.2 in
      (λ t. point_line (i e) (j e) (x t) (y t) (z t)) ∙ vertex_piece (net e) (w e) (h e) (n e) (above e)

  -- an i32 has at most ten digits
  small : (z : ℤ) → mag z < 2 ^ 31 → nat_abs (held z) < 10 ^ 10
  small z g =
      let most : nat_abs z ≤ 2 ^ 31 = size_of_fits {w = w32} {z = z} (record { sfits = g }) in
      omega (arith, ap nat_abs (reads_back w32 z g), most)

  short : length line ≤ longest_line
  short =
      let fits = c.struct_told-in-Ok-2-1.given in
      let s = size (start e) in
      point_length (i e) (j e) (held point.x) (held point.y) (held point.z) (omega (arith, column e, s.narrow)) (omega (arith, row e, s.low))
      (small point.x fits.0.1) (small point.y fits.1.0.1) (small point.z fits.1.1.0.1)

pub store_head_line-requires : goal.store_head_line-requires
store_head_line-requires c =
    let start = (goal.at.store_head_line-requires c).Start in
    le_trans (short_head start) start.requires.2

pub returns-then-n-eq0 : goal.returns-then-n-eq0
returns-then-n-eq0 c =
    let p = (let t = c in
    let start = (goal.at.returns-then-n-eq0 c).Start in
    let piece = first_piece start.args.net.now start.args.w start.args.h t.if-n-eq0.true in
    stored_line (stored_as c.store_head_line.ensures piece)
    (omega (arith, sym (ap length piece), short_head start)) start.requires.2) in record { out_after = p.0; value = p.1.0; upper_bound = p.1.1 }

pub store_point_line-requires : goal.store_point_line-requires
store_point_line-requires c = le_trans (short c) (start (e c)).requires.2

pub returns-in-Ok : goal.returns-in-Ok
returns-in-Ok c =
    let p = (let k = (goal.at.returns-in-Ok c).After-struct_told-in-Ok-2-1 in
    stored_line (stored_as {xs =
    line k} c.store_point_line.ensures (line_is k))
    (omega (arith, sym (ap length (line_is k)), short k)) (start (e k)).requires.2) in record { out_after = p.0; value = p.1.0; upper_bound = p.1.1 }

-- no point is refused
pub returns-in-Err : goal.returns-in-Err
returns-in-Err c =
    let e = (goal.at.returns-in-Err c).Else-n-eq0 in
    absurd (not_refused (net e) (w e) (h e) (p e) (q e) (taken e) c.in-Err.ensures)
