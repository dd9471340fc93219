use Rattle.std.proofs.Common.{◌≡◌, ℕ, sym, ap, ◌∙◌, arith, slice_index, set}
use Rattle.std.proofs.lemmas.List.{get_or_default}
use Rattle.cycles.specs.Labels.{root}
use Rattle.cycles.proofs.Roots.{root_own, root_next, root_shortened}
use Rattle.graphic.proofs.graphic.Labels.root.Goals as goal

pub loop-self-preserved : goal.loop-self-preserved
loop-self-preserved c =
    let labels = c.loop-self.self.labels in
    let falling = c.loop-self.self.falling in
    let here = c.loop-self.here in
    let after = slice_index labels here in
    let past = slice_index labels after in
    let low = falling here in
    let lower = falling after in
    let leads : root labels past ≡ root labels here =
    ap (root labels) (get_or_default labels after 0 after (omega arith)) ∙ root_next labels falling after ∙ ap (root labels) (get_or_default labels here 0 here (omega arith)) ∙ root_next labels falling here in
    let stays : (w : ℕ) → root (set labels here past) w ≡ root labels w = root_shortened labels falling past here (omega arith) (omega arith) (omega arith) leads in
    record { same = λ w. stays w ∙ c.loop-self.invariant.same w; here = stays past ∙ leads ∙ c.loop-self.invariant.here }

pub returns-clause-value : goal.returns-clause-value
returns-clause-value c =
    let labels = c.loop-self.self.labels in
    let here = c.loop-self.here in
    sym (root_own labels c.loop-self.self.falling here (get_or_default labels here here 0 (omega arith) ∙ c.loop-self-test.false)) ∙ c.loop-self.invariant.here
