use Rattle.picker.proofs.Labels.{promises}
use Rattle.picker.proofs.picker.Picker.look.Goals as goal

pub returns-clause-promise : goal.returns-clause-promise
returns-clause-promise g c = promises g.W.Objective g.R.Matroid c.args.self.now
