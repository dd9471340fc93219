use Rattle.std.proofs.Common.{◌≡◌, ◌*◌, ◌^◌, ◌<◌, true, take}
use Rattle.records.specs.Reading.{digits_in, number_in}
use Rattle.lines.proofs.number.leading.Given as goal

abbrev pub invariant-loop-i : goal.invariant-loop-i
invariant-loop-i l = (digits_in l.base (take l.i l.bytes) ≡ true) × (l.n ≡ number_in l.base (take l.i l.bytes)) × (l.n < 2 ^ (4 * l.i))
