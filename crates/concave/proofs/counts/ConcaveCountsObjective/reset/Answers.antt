use Rattle.std.proofs.Common.{refl, arith}
use Rattle.kinds.proofs.Located.{get_or_zeros}
use Rattle.kinds.proofs.Stepped.{left_none}
use Rattle.concave.proofs.counts.ConcaveCountsObjective.reset.Goals as goal

pub way_repeat-self : goal.way_repeat-self
way_repeat-self c = let w = c.args.self.now in (w.table, (refl, (w.limit, (w.falling, ((λ l. omega (arith, get_or_zeros 64 l)), tt)))))

pub returns : goal.returns
returns c = record { whole = λ s. refl; left = λ s. left_none (λ x. x.lane) 64 c.args.self.now.steps s }
