use Rattle.std.proofs.Common.{length}
use Rattle.serving.proofs.Walks.{Walk}
use Rattle.serving.proofs.serve.answers_due.Given as goal

abbrev pub invariant-loop-request : goal.invariant-loop-request
invariant-loop-request l = Walk l.calls l.requests.rest.now l.due

abbrev pub decreases-loop-request : goal.decreases-loop-request
decreases-loop-request l = length l.requests.rest.now
