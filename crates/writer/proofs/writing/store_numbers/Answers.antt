-- `writer::writing::store_numbers` meets its contract.
use mathlib.Core.Path.{◌≡◌, sym, ap, ◌∙◌, subst}
use mathlib.Core.List.{List}
use Prim.Native.Nat.{ℕ, ◌+◌, ◌≤◌, ◌<◌}
use native.Mathlib.Omega.{arith}
use lib.ListN.{length}
use lib.Seq.{sets, length-sets}
use lib.IntN.{ℤ, nat_abs}
use mir.Syntax.{w32}
use mir.Val.{to_z, of_z}
use Rattle.exact.proofs.SignedCode.{reads_back}
use Rattle.net.specs.Net.{number}
use Rattle.net.specs.Refusals.{net_limit}
use Rattle.net.proofs.Ranges.{in_range_lem}
use Rattle.words.specs.NetFile.{word, complement, x_kind, y_kind, z_kind, number_bytes, point_bytes, point_size}
use Rattle.writer.proofs.WriteLaws.{words_stored}
use Rattle.writer.proofs.writing.store_numbers.Goals as goal
use Rattle.writer.proofs.writing.store_numbers.Goals.{After-store_number, After-store_number-2, After-z-1}

module _ (c : After-z-1) where
  abbrev net : List ℤ
  net = c.args.net.now

  abbrev from : ℕ
  from = c.args.from

  abbrev at : ℕ
  at = c.args.at

  abbrev out : List ℕ
  out = c.args.out.now

  abbrev x : ℤ
  x = number net from

  abbrev y : ℤ
  y = number net (from + 1)

  abbrev z : ℤ
  z = number net (from + 2)

  -- the numbers that were read, out of the bits that hold them
  read_x : to_z w32 (of_z w32 x) ≡ x
  read_x = reads_back w32 x c.x-1.given

  read_y : to_z w32 (of_z w32 y) ≡ y
  read_y = reads_back w32 y c.y-1.given

  read_z : to_z w32 (of_z w32 z) ≡ z
  read_z = reads_back w32 z c.z-1.given

  -- they are in range
  small : (i : ℕ) → i < from + 3 → {u : ℤ} → u ≡ number net i → nat_abs u ≤ 16777216
  small i h e =
      subst (λ (v : ℤ). nat_abs v ≤ 16777216) (sym e)
      (in_range_lem net_limit net c.requires.2 i
      (omega (arith, h, c.requires.0)))

  room : at + point_size ≤ length out
  room = c.requires.1

-- what stands after the first word, and after the second
module _ (c : After-store_number) where
  abbrev w : After-z-1
  w = (goal.at.After-store_number c).After-z-1

  one : c.store_number.new.out ≡ sets (out w) (at w) (number_bytes x_kind (x w))
  one = c.store_number.ensures ∙ ap (λ (u : ℤ). sets (out w) (at w) (number_bytes x_kind u)) (read_x w)

module _ (c : After-store_number-2) where
  abbrev v : After-store_number
  v = (goal.at.After-store_number-2 c).After-store_number

  two : c.store_number-2.new.out
      ≡ sets (sets (out (w v)) (at (w v)) (number_bytes x_kind (x (w v)))) (at (w v) + 4) (number_bytes y_kind (y (w v)))
  two = c.store_number-2.ensures ∙ (λ t. sets (one v t) (at (w v) + 4) (number_bytes y_kind (read_y (w v) t)))

pub store_number-requires : goal.store_number-requires
store_number-requires c =
    let k = (goal.at.store_number-requires c).After-z-1 in
    (small k (from k) (omega arith) (read_x k), omega (arith, room k))

pub store_number-requires-2 : goal.store_number-requires-2
store_number-requires-2 c =
    let v = (goal.at.store_number-requires-2 c).After-store_number in
    let k = w v in (
      small k (from k + 1) (omega arith) (read_y k),
      omega
          (arith, room k, ap length (one v), length-sets (out k) (at k) (number_bytes x_kind (x k))),
    )

pub store_number-requires-3 : goal.store_number-requires-3
store_number-requires-3 c =
    let u = (goal.at.store_number-requires-3 c).After-store_number-2 in
    let k = w (v u) in (
      small k (from k + 2) (omega arith) (read_z k),
      omega (
        arith,
        room k,
        ap length (two u),
        length-sets (sets (out k) (at k) (number_bytes x_kind (x k))) (at k + 4) (number_bytes y_kind (y k)),
        length-sets (out k) (at k) (number_bytes x_kind (x k)),
      ),
    )

pub returns : goal.returns
unfolding point_bytes
returns c =
    let u = (goal.at.returns c).After-store_number-2 in
    let k = w (v u) in
    c.store_number-3.ensures
    ∙ (λ t. sets (two u t) (at k + 8) (number_bytes z_kind (read_z k t)))
    ∙ words_stored (out k) (at k) (word x_kind (complement (x k))) (word y_kind (complement (y k)))
    (word z_kind (complement (z k)))
