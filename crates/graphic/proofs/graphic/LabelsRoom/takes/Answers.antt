use Rattle.std.proofs.Common.{◌≡◌, sym, ◌∙◌, arith, slice_index}
use Rattle.std.proofs.lemmas.List.{get_or_default}
use Rattle.cycles.specs.Labels.{root}
use Rattle.cycles.proofs.Labels.{joins_more}
use Rattle.cycles.proofs.Roots.{root_own, root_itself}
use Rattle.graphic.proofs.graphic.LabelsRoom.takes.Goals as goal

pub merge-requires : goal.merge-requires
merge-requires c =
    let a = c.root-a.result in
    let then = c.root-a.new.self in
    let now = c.root-b.new.self in
    let was : root then.labels a ≡ a = root_own then.labels then.falling a (get_or_default then.labels a a 0 (omega arith) ∙ c.root-a.ensures.own) in
    -- the tail's root still is one after the head's is looked for
    let still : slice_index now.labels a ≡ a = root_itself now.labels now.falling a (omega arith) (c.root-b.ensures.same a ∙ was) in
    (still, omega arith)

pub returns : goal.returns
returns c = λ s.
    let tail_root = c.root-a.ensures.value in
    let head_root = c.root-b.ensures.value ∙ c.root-a.ensures.same c.args.x.now.head in
    joins_more (λ y. y.tail) (λ y. y.head) (root c.args.self.now.labels) c.args.x.now s (λ e. c.if-a-b.false (tail_root ∙ e ∙ sym head_root)) (root c.merge.new.self.labels)
    (λ w. simp (tail_root, head_root, c.root-b.ensures.same, c.root-a.ensures.same) at (c.merge.ensures w))
