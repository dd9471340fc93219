use Rattle.std.proofs.Common.{◌≡◌, ◌-◌}
use Rattle.laminar.proofs.Ways.{Upto}
use Rattle.laminar.proofs.laminar.BoxesLeftRoom.takes.Given as goal

-- the tree stays, and one is taken from each box below b on the way
abbrev pub invariant-loop-b : goal.invariant-loop-b
invariant-loop-b l = (l.self.tree ≡ l.initial.self.tree) × Upto l.initial.self.tree.now.parents l.initial.self.left l.x.lane l.self.left l.b

abbrev pub decreases-loop-b : goal.decreases-loop-b
decreases-loop-b l = 96 - l.b
