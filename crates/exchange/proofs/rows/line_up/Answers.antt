use Rattle.std.proofs.Common.{List, ◌∷◌, map, sym, ap, ◌∙◌}
use Rattle.std.proofs.lemmas.List.{take_all}
use Rattle.theory.specs.Replay.{frames}
use Rattle.frames.specs.declared.entry.Entry.{Entry}
use Rattle.frames.specs.declared.frame.Frame.{Frame}
use Rattle.kept.specs.Tables.{held}
use Rattle.kept.proofs.Tables.{frames-held}
use Rattle.exchange.proofs.rows.line_up.Goals as goal

pub returns : goal.returns
returns g c =
    let es = c.entries-entry-items.result.now in
    c.loop-entry.invariant
    ∙ ap (λ (s : List Frame). c.args.x ∷ s) (ap (map (λ e. e.frame)) (take_all c.loop-entry.entry-index es c.loop-entry-test.false) ∙ sym (frames-held es) ∙ ap (λ (s : List Entry). frames (held s)) c.entries-entry-items.ensures.value)
