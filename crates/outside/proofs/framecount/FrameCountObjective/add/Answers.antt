use Rattle.std.proofs.Common.{refl, ap, ◌∙◌}
use Rattle.outside_laws.specs.Counts.{count_up_to}
use Rattle.outside_laws.proofs.Counts.{count_added}
use Rattle.outside.proofs.framecount.FrameCountObjective.add.Goals as goal

pub returns : goal.returns
returns c = record { whole = λ s. refl; left = λ s. ap (λ k. count_up_to k s) c.saturating_sub-self.ensures ∙ count_added c.args.self.now.left c.args.x.now s }
