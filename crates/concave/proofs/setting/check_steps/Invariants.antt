use Rattle.std.proofs.Common.{◌≡◌, drop}
use Rattle.concave.specs.Steps.{first_wrong}
use Rattle.concave.proofs.setting.check_steps.Given as goal

abbrev pub invariant-loop-i : goal.invariant-loop-i
invariant-loop-i l = first_wrong 8388607 l.i l.before (drop l.i l.steps) ≡ first_wrong 8388607 0 0 l.steps
