use Rattle.std.proofs.Common.{sym, ◌∙◌, arith}
use Rattle.std.proofs.lemmas.List.{at_drop_all}
use Rattle.laminar.specs.Trees.{first_bad_parent}
use Rattle.laminar.proofs.Trees.{bad_more, bad_here, all_may}
use Rattle.laminar.proofs.tree.check_parents.Goals as goal

pub returns-then-not-may_hold : goal.returns-then-not-may_hold
returns-then-not-may_hold c = record { fault = sym (bad_here c.args.parents.now c.loop-b.b 0 (omega arith) (sym c.may_hold.ensures ∙ c.if-not-may_hold.true)) ∙ c.loop-b.invariant; accepted = tt }

pub loop-b-preserved : goal.loop-b-preserved
loop-b-preserved c = sym (bad_more c.args.parents.now c.loop-b.b 0 (omega arith) (sym c.may_hold.ensures ∙ c.if-not-may_hold.false)) ∙ c.loop-b.invariant

pub returns : goal.returns
returns c =
    let none = sym (at_drop_all (first_bad_parent c.loop-b.b) c.args.parents.now c.loop-b.b (omega arith)) ∙ c.loop-b.invariant in
    record { fault = none; accepted = all_may c.args.parents.now (sym none) }
