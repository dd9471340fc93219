use Rattle.std.proofs.Common.{refl}
use Rattle.outside.proofs.framecount.FrameCountObjective.reset.Goals as goal

pub returns : goal.returns
returns c = record { whole = λ s. refl; left = λ s. refl }
