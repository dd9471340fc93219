use Rattle.std.proofs.Common.{◌+◌, ◌<◌, length, drop, arith}
use Rattle.std.specs.List.{flat_map}
use Rattle.std.proofs.lemmas.List.{at_drop_more}
use Rattle.report.proofs.Pieces.{left_more}
use Rattle.report.proofs.written.ArrayWritten.put.Goals as goal

pub loop-x-preserved : goal.loop-x-preserved
loop-x-preserved g c =
    let texts = flat_map g.T.Written.text in
    let xs = c.args.self.now in
    let l = c.loop-x in
    let q = c.in_ok-at in
    let within : l.x-index < length xs = omega arith in
    left_more (texts xs) _ _ (texts (drop (l.x-index + 1) xs)) l.at q.field-0 l.out c.put.new.out c.args.out.now
    (at_drop_more texts xs l.x-index c.x-item.result within) l.invariant q.ensures.len.1 q.ensures.len.0 (q.ensures.after q.ensures.len.0)
