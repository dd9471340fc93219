use Rattle.std.proofs.Common.{◌≡◌, ◌+◌, ◌*◌, ◌<◌, ◌≤◌, get_or, sym, ap, ◌∙◌, arith, rules}
use Rattle.kinds.specs.Objectives.{steps_left}
use Rattle.kinds.proofs.Stepped.{concave_one, concave_outside, next_step, no_step}
use Rattle.concave.proofs.counts.ConcaveCountsObjective.gain.Goals as goal

pub returns-in-Some : goal.returns-in-Some
returns-in-Some c =
    let w = c.args.self.now in
    let x = c.args.x.now in
    let low : x.lane < 64 = search rules in
    let same : get_or w.counts x.lane 0 ≡ c.in-Some.count.now = search rules in
    let next = next_step w.counts w.steps x.lane (omega arith) in
    sym (concave_one (λ y. y.lane) (steps_left w.counts w.steps) x low ∙ next ∙ ap (λ n. get_or w.steps (8 * x.lane + n) 0) same)

pub returns-in_default : goal.returns-in_default
returns-in_default c =
    let w = c.args.self.now in
    let x = c.args.x.now in
    let low : x.lane < 64 = search rules in
    let same : get_or w.counts x.lane 0 ≡ c.in-Some.count.now = search rules in
    sym (concave_one (λ y. y.lane) (steps_left w.counts w.steps) x low ∙ no_step w.counts w.steps x.lane (omega arith))

pub returns-in_default-2 : goal.returns-in_default-2
returns-in_default-2 c =
    let w = c.args.self.now in
    let high : 64 ≤ c.args.x.now.lane = search rules in
    sym (concave_outside (λ x. x.lane) (steps_left w.counts w.steps) c.args.x.now high)
