use Rattle.std.proofs.Common.{◌≡◌, ℕ}
use Rattle.cycles.specs.Labels.{root}
use Rattle.graphic.proofs.graphic.Labels.root.Given as goal

-- each station still leads where it did, and the way from here goes where the way from the station does
abbrev pub invariant-loop-self : goal.invariant-loop-self
invariant-loop-self l = record { same : (w : ℕ) → root l.self.labels w ≡ root l.initial.self.labels w; here : root l.self.labels l.here ≡ root l.initial.self.labels l.station }

abbrev pub decreases-loop-self : goal.decreases-loop-self
decreases-loop-self l = l.here
