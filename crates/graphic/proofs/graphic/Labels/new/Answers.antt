use Rattle.std.proofs.Common.{arith}
use Rattle.cycles.proofs.Labels.{numbered}
use Rattle.graphic.proofs.graphic.Labels.new.Goals as goal

pub returns : goal.returns
returns c = numbered 256 c.loop-i.label-items c.loop-i.invariant.full (λ k h. c.loop-i.invariant.own k (omega arith))
