use Rattle.serving.proofs.Runs.{Led}
use Rattle.serving.proofs.serve.answer_all.Given as goal

abbrev pub invariant-loop-request : goal.invariant-loop-request
invariant-loop-request g l = Led g.W.Objective g.R.Matroid l.initial.picker l.fn.calls l.initial.answers l.request-iterator.rest.now l.to l.picker l.answers
