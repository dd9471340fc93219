use Rattle.std.proofs.Common.{◌*◌, ◌≤◌, leb, get_or, sym, ap, ◌∙◌, arith}
use Rattle.std.proofs.lemmas.Bool.{le-leb, cond-true}
use Rattle.exchange.specs.declared.outcome.Outcome.TheVariants.{Swapped, Light}
use Rattle.kept.specs.Tables.{held, frame_at, gain_at}
use Rattle.kept.proofs.Tables.{entry_frame, no_entry}
use Rattle.exchange.proofs.bid.Bid.contest.Goals as goal

pub returns-then-from : goal.returns-then-from
unfolding no_entry
returns-then-from g c =
    let t = c.args.self.now.table.now in
    let p = c.args.place in
    let n = c.args.self.now.gain in
    let twice : 2 * gain_at (held t) p ≤ n = omega (arith, c.if-from.true, c.from.ensures, c.from-2.ensures, c.gain_at-least.ensures) in
    ap (Swapped p n) (ap (λ es. (get_or es p no_entry).frame) c.entries.ensures.value ∙ entry_frame t p c.requires no_entry)
    ∙ sym (cond-true (leb (2 * gain_at (held t) p) n) (Swapped p n (frame_at (held t) p)) (Light p n (gain_at (held t) p)) (le-leb (2 * gain_at (held t) p) n twice))
