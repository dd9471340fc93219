use Rattle.std.proofs.Common.{◌≡◌, ◌≤◌}
use Rattle.theory.specs.Lightest.{LightestBelow}
use Rattle.theory.specs.Replay.{gains, may_take}
use Rattle.kept.specs.Tables.{held}
use Rattle.exchange.proofs.bid.Bid.lightest.Given as goal

-- the best of the places that were looked at; those from `start` on are left
abbrev pub invariant-loop-p : goal.invariant-loop-p
invariant-loop-p g l = (l.places.start ≤ l.places.end) × (l.places.end ≡ l.initial.places.end) × LightestBelow (may_take (g.R.Matroid.admits l.self.matroid.now) (held l.self.table.now) l.self.frame) (gains (held l.self.table.now)) l.places.start l.best
