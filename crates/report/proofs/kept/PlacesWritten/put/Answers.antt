use Rattle.std.proofs.Common.{◌+◌, ◌++◌, drop, sym, ap, ◌∙◌}
use Rattle.std.proofs.lemmas.List.{at_drop_more}
use Rattle.report.specs.Digest.{places_from}
use Rattle.report.proofs.Pieces.{left_more}
use Rattle.report.proofs.kept.PlacesWritten.put.Goals as goal

pub loop-place-preserved : goal.loop-place-preserved
loop-place-preserved c =
    let es = c.args.self.now.entries.now in
    let l = c.loop-place in
    let q = c.in_ok-at in
    let rest = places_from (l.place + 1) (drop (l.place + 1) es) in
    let next = at_drop_more (places_from l.place) es l.place _ c.loop-place-test.true ∙ ap (λ t. t ++ rest) (sym c.place_lines.ensures) in
    left_more (places_from 0 es) _ _ rest l.at q.field-0 l.out c.put.new.out c.args.out.now next l.invariant q.ensures.len.1 q.ensures.len.0 (q.ensures.after q.ensures.len.0)
