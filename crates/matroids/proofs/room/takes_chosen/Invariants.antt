use Rattle.std.proofs.Common.{◌≡◌}
use Rattle.matroids.specs.Chosen.{chosen}
use Rattle.matroids.proofs.room.takes_chosen.Given as goal

-- what is left of the set has room in what is left
abbrev pub invariant-loop-rest : goal.invariant-loop-rest
invariant-loop-rest g l = g.R.Room.admits l.room (chosen l.frames l.rest) ≡ g.R.Room.admits l.initial.room (chosen l.frames l.places)

abbrev pub decreases-loop-rest : goal.decreases-loop-rest
decreases-loop-rest g l = l.rest
