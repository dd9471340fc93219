use Rattle.std.proofs.Common.{arith}
use Rattle.matroids.proofs.Counted.{count-chosen}
use Rattle.matroids.proofs.count.chosen_count.Goals as goal

pub returns : goal.returns
returns c = count-chosen 64 c.args.frames.now c.args.places c.places_below.result (omega arith) c.places_below.ensures
