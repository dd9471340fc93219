use Rattle.std.proofs.Common.{◌≡◌, ◌+◌, length, drop}
use Rattle.report.specs.Digest.{places_from}
use Rattle.report.proofs.kept.PlacesWritten.room_after.Given as goal

abbrev pub invariant-loop-place : goal.invariant-loop-place
invariant-loop-place l = l.initial.left + length (places_from l.place (drop l.place l.entry-items)) ≡ l.left + length (places_from 0 l.entry-items)
