use Rattle.std.proofs.Common.{set, refl, arith}
use Rattle.kinds.specs.Objectives.{steps_left}
use Rattle.kinds.proofs.Stepped.{concave_added, count_here, count_other}
use Rattle.concave.proofs.counts.ConcaveCountsObjective.add.Goals as goal

pub returns-then-lane-lt-LANES : goal.returns-then-lane-lt-LANES
returns-then-lane-lt-LANES c =
    let w = c.args.self.now in
    let x = c.args.x.now in
    let n = c.min.result in
    record {
      whole = λ s. refl;
      left = λ s. omega (arith, concave_added (λ y. y.lane) (steps_left w.counts w.steps) x (steps_left (set w.counts x.lane n) w.steps) s (λ l k e. count_here w.counts w.steps x.lane n l (omega arith) (omega (arith, c.min.ensures)) e) (λ l h. count_other w.counts w.steps x.lane n l h));
    }

pub returns-else-lane-lt-LANES : goal.returns-else-lane-lt-LANES
returns-else-lane-lt-LANES c =
    let w = c.args.self.now in
    let at = steps_left w.counts w.steps in
    record { whole = λ s. refl; left = λ s. omega (arith, concave_added (λ y. y.lane) at c.args.x.now at s (λ l k e. absurd (omega arith)) (λ l h. refl)) }
