use Rattle.std.proofs.Common.{◌-◌, get_or, set, sym, ap, ◌∙◌, subst, inl, inr, arith}
use Rattle.kinds.specs.Matroids.{laminar}
use Rattle.kinds.proofs.Lanes.{parents_from}
use Rattle.kinds.proofs.Meanings.{laminar_takes, laminar_full}
use Rattle.laminar.proofs.Ways.{Upto, up_more, up_full, up_all, parent_above}
use Rattle.laminar.proofs.laminar.BoxesLeftRoom.takes.Goals as goal

pub returns-then-b-ge-LANES : goal.returns-then-b-ge-LANES
returns-then-b-ge-LANES c = λ s. laminar_full (λ y. y.lane) c.args.self.now.tree.now.parents c.args.self.now.left c.args.x.now s (inl (omega arith))

pub returns-then-self-b-eq0 : goal.returns-then-self-b-eq0
returns-then-self-b-eq0 c = λ s.
    let tree = c.args.self.now.tree.now in
    let law = parents_from tree.parents tree.paired tree.tree in
    laminar_full (λ y. y.lane) tree.parents c.args.self.now.left c.args.x.now s (inr (up_full tree.parents law c.args.self.now.left c.loop-b.self.left c.args.x.now.lane c.loop-b.b c.loop-b.invariant.1 (omega arith) (omega arith)))

pub loop-b-smaller : goal.loop-b-smaller
loop-b-smaller c = let tree = c.loop-b.self.tree.now in omega (arith, parent_above tree.parents (parents_from tree.parents tree.paired tree.tree) c.loop-b.b (omega arith))

pub loop-b-preserved : goal.loop-b-preserved
loop-b-preserved c =
    let before = c.args.self.now in
    let tree = before.tree.now in
    let b = c.loop-b.b in
    let left = c.loop-b.self.left in
    let up = up_more tree.parents (parents_from tree.parents tree.paired tree.tree) before.left left c.args.x.now.lane b c.loop-b.invariant.1 (omega arith) (omega arith) (omega arith) in
    (c.loop-b.invariant.0, subst (λ t. Upto tree.parents before.left c.args.x.now.lane (set left b (get_or left b 0 - 1)) (get_or t.now.parents b 0)) (sym c.loop-b.invariant.0) up)

pub returns : goal.returns
returns c = λ s.
    let before = c.args.self.now in
    let tree = before.tree.now in
    let law = parents_from tree.parents tree.paired tree.tree in
    let left = c.loop-b.self.left in
    laminar_takes (λ y. y.lane) tree.parents before.left c.args.x.now s left (omega arith) (up_all tree.parents law before.left left c.args.x.now.lane c.loop-b.b c.loop-b.invariant.1 (omega arith))
    ∙ ap (λ t. laminar (λ y. y.lane) t.now.parents left s) (sym c.loop-b.invariant.0)
