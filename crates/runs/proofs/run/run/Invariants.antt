use Rattle.runs.proofs.Turns.{Led}
use Rattle.runs.proofs.run.run.Given as goal

abbrev pub invariant-loop-call : goal.invariant-loop-call
invariant-loop-call g l = Led g.W.Objective g.R.Matroid l.initial.picker l.calls l.initial.sheet l.call-index l.picker l.sheet l.answer
