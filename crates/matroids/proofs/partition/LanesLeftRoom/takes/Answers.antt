use Rattle.std.proofs.Common.{arith, rules}
use Rattle.kinds.proofs.Meanings.{partition_takes, partition_full}
use Rattle.matroids.proofs.partition.LanesLeftRoom.takes.Goals as goal

pub returns-then-lane-ge-LANES : goal.returns-then-lane-ge-LANES
returns-then-lane-ge-LANES c = λ s. partition_full (λ y. y.lane) c.args.self.now.left c.args.x.now s (search rules)

pub returns : goal.returns
returns c = λ s. partition_takes (λ y. y.lane) c.args.self.now.left c.args.x.now s (omega arith) (omega arith) (omega arith)
