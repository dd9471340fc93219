-- What a line's fault tells: the refusal, and where, and both as a text. Assumes nothing.
use Rattle.std.specs.Prelude.{ℕ, ◌++◌, List, codes}
use Rattle.std.specs.Fmt.{decimal}
use Rattle.frames.specs.declared.refusal.Refusal.{Refusal}
use Rattle.frames.specs.declared.refusal.Refusal.TheVariants as refusals
use Rattle.frames.specs.Refusals.{text_of}
use Rattle.spots.specs.declared.fault.Spot.{Spot}
use Rattle.spots.specs.declared.fault.LineFault.{LineFault}
use Rattle.spots.specs.declared.fault.LineFault.TheVariants.{WrongKey, BadForm, Over, Cut}

abbrev pub spot : ℕ → ℕ → ℕ → Spot
spot r l b = record { «record» = r; line = l; byte = b }

abbrev pub line_refusal : LineFault → Refusal
line_refusal (WrongKey s) = refusals.WrongKey
line_refusal (BadForm s) = refusals.BadForm
line_refusal (Over s) = refusals.Over
line_refusal (Cut s) = refusals.Cut

abbrev pub line_spot : LineFault → Spot
line_spot (WrongKey s) = s
line_spot (BadForm s) = s
line_spot (Over s) = s
line_spot (Cut s) = s

-- where a text stopped, as it stands behind a refusal's text
abbrev pub spot_text : Spot → List ℕ
spot_text s = codes ", in record " ++ decimal s.«record» ++ codes ", line " ++ decimal s.line ++ codes ", at byte " ++ decimal s.byte

-- what a line's fault says: the refusal, and where the text stopped
abbrev pub line_fault_text : LineFault → List ℕ
line_fault_text e = text_of (line_refusal e) ++ spot_text (line_spot e)
