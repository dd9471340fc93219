-- What is told of the records of a text in turn. Assumes nothing.
use Rattle.std.specs.Prelude.{◌≡◌, ℕ, ◌+◌, List, [], length, drop, Some, None, Ok, Err, Option, Result, ◌≢◌}
use Rattle.frames.specs.declared.frame.Frame.{Frame}
use Rattle.records.specs.Format.{shown}
use Rattle.records.specs.Reading.{Wrong, read_record, fault_at}
use Rattle.parsing.specs.Records.{Stands, Refused}
use Rattle.faults.specs.declared.fault.RecordFault.{RecordFault}
use Rattle.faults.specs.declared.fault.RecordFault.TheVariants.{Line}

-- r answers a call for the next record, where `count` records were read up to byte `at`, and `count'` up to `at'` after it
abbrev pub NextRead : List ℕ → ℕ → ℕ → ℕ → ℕ → Result (Option Frame) RecordFault → Type 0
NextRead text at count at' count' (Ok None) = (drop at text ≡ []) × (at' ≡ at) × (count' ≡ count)
NextRead text at count at' count' (Ok (Some x)) = Stands text at x at' × (count' ≡ count + 1)
NextRead text at count at' count' (Err f) = (drop at text ≢ []) × Refused text at (count + 1) f × (at' ≡ at) × (count' ≡ count)

-- the same by what the text has there
pub record Next (text : List ℕ) (at count at' count' : ℕ) (r : Result (Option Frame) RecordFault) : Type 0 where
  pub ended : drop at text ≡ [] → (r ≡ Ok None) × (at' ≡ at) × (count' ≡ count)
  pub read : (x : Frame) (rest : List ℕ) → read_record (drop at text) ≡ Ok (x, rest) → (r ≡ Ok (Some x)) × (drop at' text ≡ rest) × (at' ≡ at + length (shown x)) × (count' ≡ count + 1)
  pub refused : (w : Wrong) → (drop at text ≢ []) → read_record (drop at text) ≡ Err w → (r ≡ Err (Line (fault_at (count + 1) at w))) × (at' ≡ at) × (count' ≡ count)
