-- Small texts: what is told of the call for the next record leaves one answer. Assumes nothing.
use Rattle.std.proofs.Common.{◌≡◌, ℕ, List, [], Some, None, Ok, Err, Option, Result, refl, codes}
use Rattle.std.specs.Fmt.{digits}
use Rattle.frames.specs.declared.frame.Frame.{Frame}
use Rattle.records.specs.Format.{hexadecimal}
use Rattle.records.specs.Reading.{cut, read_line, read_decimal_line, read_record, fault_at}
use Rattle.reading.specs.Texts.{Next}
use Rattle.faults.specs.declared.fault.RecordFault.{RecordFault}
use Rattle.faults.specs.declared.fault.RecordFault.TheVariants.{Line}

abbrev record_of_one : List ℕ
record_of_one = codes "frame=1\nmarks=0000000000000003\nlook=0\nlane=5\ntail=0\nhead=0\nside=0\n"

abbrev one : Frame
one = record { number = 1; marks = 3; look = 0; lane = 5; tail = 0; head = 0; side = 0 }

module _ (at' count' : ℕ) (r : Result (Option Frame) RecordFault) where
  ended : Next record_of_one 66 1 at' count' r → (r ≡ Ok None) × (at' ≡ 66) × (count' ≡ 1)
  ended n = n.ended refl

  read : Next record_of_one 0 0 at' count' r → (r ≡ Ok (Some one)) × (at' ≡ 66) × (count' ≡ 1)
  unfolding read_record read_line read_decimal_line hexadecimal digits
  read n = let h = n.read one [] refl in (h.0, h.2, h.3)

  -- the text ends within the second record's first line
  refused : Next (codes "frame=1") 0 1 at' count' r → (r ≡ Err (Line (fault_at 2 0 (record { why = cut; line = 1; byte = 0 })))) × (at' ≡ 0) × (count' ≡ 1)
  unfolding read_record read_line read_decimal_line
  refused n = n.refused (record { why = cut; line = 1; byte = 0 }) (λ e. cc e) refl
