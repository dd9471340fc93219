use Rattle.std.proofs.Common.{◌≡◌, drop}
use Rattle.laminar.specs.Trees.{first_bad_parent}
use Rattle.laminar.proofs.tree.check_parents.Given as goal

abbrev pub invariant-loop-b : goal.invariant-loop-b
invariant-loop-b l = first_bad_parent l.b (drop l.b l.parents) ≡ first_bad_parent 0 l.parents
