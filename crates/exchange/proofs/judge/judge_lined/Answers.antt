use Rattle.std.proofs.Common.{Some, None, sym, ◌∙◌}
use Rattle.kept.specs.Tables.{held}
use Rattle.exchange.proofs.Outcomes.{displaced_outcome}
use Rattle.exchange.proofs.judge.judge_lined.Goals as goal

pub returns-in-None-clause-outcome : goal.returns-in-None-clause-outcome
returns-in-None-clause-outcome g c =
    displaced_outcome (g.R.Matroid.admits c.args.matroid.now) c.args.size.n (held c.args.table.now) c.args.x c.args.gain c.requires.gain (sym c.has_room.ensures ∙ c.if-has_room.false) None c.in-None.ensures

pub returns-in-Some-clause-outcome : goal.returns-in-Some-clause-outcome
returns-in-Some-clause-outcome g c =
    c.contest.ensures ∙ displaced_outcome (g.R.Matroid.admits c.args.matroid.now) c.args.size.n (held c.args.table.now) c.args.x c.args.gain c.requires.gain (sym c.has_room.ensures ∙ c.if-has_room.false) (Some c.in-Some.place) c.in-Some.ensures
