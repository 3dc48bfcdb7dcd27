-- `writer::writing::store_file` meets its contract.
use mathlib.Core.Path.{◌∙◌}
use Prim.Native.Nat.{◌+◌, ◌*◌}
use lib.Seq.{sets}
use Rattle.exact.specs.Filling.{runs}
use Rattle.net.specs.Net.{point_stride}
use Rattle.words.specs.NetFile.{word, word_bytes, end_kind, height_kind, points, point_bytes, head_size, point_size}
use Rattle.writer.proofs.WriteLaws.{file_stored}
use Rattle.writer.proofs.writing.store_file.Goals as goal

pub returns : goal.returns
returns c =
    let third = c in
    let body = c in
    let second = c in
    let first = c in
    let s = c in
    let n = points s.args.size.w s.args.size.h in
    let points = runs n (λ i. point_bytes s.args.net.now (point_stride * i)) in
    let sides = second.store_word-2.ensures
    ∙ (λ t. sets (first.store_word.ensures t) 4 (word_bytes (word height_kind s.args.size.h))) in
    let stored = body.store_points.ensures ∙ (λ t. sets (sides t) head_size points) in
    third.store_word-3.ensures
    ∙ (λ t. sets (stored t) (head_size + point_size * n) (word_bytes (word end_kind 0)))
    ∙ file_stored s.args.net.now s.args.size.w s.args.size.h s.args.out.now s.requires.1
