-- What the fault of a record or of a text tells: the refusal, and where, and both as a text. Assumes nothing.
use Rattle.std.specs.Prelude.{ℕ, ◌++◌, List, codes}
use Rattle.std.specs.Fmt.{decimal}
use Rattle.frames.specs.declared.refusal.Refusal.{Refusal}
use Rattle.frames.specs.declared.refusal.Refusal.TheVariants as refusals
use Rattle.frames.specs.Refusals.{text_of}
use Rattle.spots.specs.Faults.{spot, line_refusal, line_spot, line_fault_text}
use Rattle.spots.specs.declared.fault.Spot.{Spot}
use Rattle.faults.specs.declared.fault.RecordFault.{RecordFault}
use Rattle.faults.specs.declared.fault.RecordFault.TheVariants.{Line, ShiftFull}
use Rattle.faults.specs.declared.fault.TextFault.{TextFault}
use Rattle.faults.specs.declared.fault.TextFault.TheVariants.{Record, LongText}

abbrev pub record_refusal : RecordFault → Refusal
record_refusal (Line f) = line_refusal f
record_refusal (ShiftFull r b) = refusals.ShiftFull

-- a full shift is no line's fault: its line is 0
abbrev pub record_spot : RecordFault → Spot
record_spot (Line f) = line_spot f
record_spot (ShiftFull r b) = spot r 0 b

abbrev pub text_refusal : TextFault → Refusal
text_refusal (Record f) = record_refusal f
text_refusal LongText = refusals.LongText

-- a text that is too long is not looked into
abbrev pub text_spot : TextFault → Spot
text_spot (Record f) = record_spot f
text_spot LongText = spot 0 0 0

-- what a record's fault says: a full shift names no line
abbrev pub record_fault_text : RecordFault → List ℕ
record_fault_text (Line f) = line_fault_text f
record_fault_text (ShiftFull r b) = text_of refusals.ShiftFull ++ codes ", in record " ++ decimal r ++ codes ", at byte " ++ decimal b

-- what a text's fault says: a text that is too long names no place
abbrev pub text_fault_text : TextFault → List ℕ
text_fault_text (Record f) = record_fault_text f
text_fault_text LongText = text_of refusals.LongText
