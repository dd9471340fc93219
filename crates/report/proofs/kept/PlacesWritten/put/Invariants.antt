use Rattle.std.proofs.Common.{drop}
use Rattle.report.specs.Digest.{places_from}
use Rattle.report.proofs.Pieces.{Left}
use Rattle.report.proofs.kept.PlacesWritten.put.Given as goal

abbrev pub invariant-loop-place : goal.invariant-loop-place
invariant-loop-place l = Left (places_from 0 l.entry-items) (places_from l.place (drop l.place l.entry-items)) l.at l.out l.initial.out
