-- Answers as bytes: what does not apply is 0. Assumes nothing.
use Rattle.std.specs.Prelude.{ℕ, ◌%◌, if◌then◌else◌, List, [], ◌∷◌, ◌++◌, length, replicate, Ok, Err, Result, nat_le}
use Rattle.frames.specs.Refusals.{number_of}
use Rattle.frames.specs.declared.entry.Entry.{Entry}
use Rattle.frames.specs.declared.refusal.Refusal.{Refusal}
use Rattle.faults.specs.Faults.{text_refusal, text_spot}
use Rattle.records.specs.Sheets.{over}
use Rattle.faults.specs.declared.fault.TextFault.{TextFault}
use Rattle.report.specs.declared.counts.Counts.{Counts}
use Rattle.exchange.specs.declared.outcome.Outcome.{Outcome}
use Rattle.exchange.specs.declared.outcome.Outcome.TheVariants.{Empty, Kept, Swapped, Light, Barred}
use Rattle.picker.specs.Calls.{Called, offering, reading, looking, counting, printing, clearing}
use Rattle.runs.specs.declared.call.Answer.{Answer}
use Rattle.runs.specs.declared.call.Answer.TheVariants.{Offered, Texted, Looked, Counted, Printed, Cleared}
use Rattle.encoding.specs.Words.{word4, word8}
use Rattle.encoding.specs.Requests.{frame_bytes}

-- to an offer: the refusal, the outcome, the place, the gain, the gain it lost to, the frame that left
abbrev pub outcome_bytes : Outcome → List ℕ
outcome_bytes Empty = replicate 28 0
outcome_bytes (Kept p g) = 0 ∷ 1 ∷ (p % 256) ∷ (word4 g ++ (replicate 4 0 ++ replicate 17 0))
outcome_bytes (Swapped p g x) = 0 ∷ 2 ∷ (p % 256) ∷ (word4 g ++ (replicate 4 0 ++ frame_bytes x))
outcome_bytes (Light p g l) = 0 ∷ 3 ∷ (p % 256) ∷ (word4 g ++ (word4 l ++ replicate 17 0))
outcome_bytes (Barred g) = 0 ∷ 4 ∷ 0 ∷ (word4 g ++ (replicate 4 0 ++ replicate 17 0))

abbrev pub offered_bytes : Result Outcome Refusal → List ℕ
offered_bytes (Ok o) = outcome_bytes o
offered_bytes (Err e) = number_of e ∷ replicate 27 0

-- to a text: the refusal, how many records were offered, and the record, the line and the byte where it stopped
abbrev pub texted_bytes : Result ℕ TextFault → List ℕ
texted_bytes (Ok n) = 0 ∷ (word4 n ++ replicate 9 0)
texted_bytes (Err f) =
    let spot = text_spot f in
    number_of (text_refusal f) ∷ (replicate 4 0 ++ (word4 spot.«record» ++ ((spot.line % 256) ∷ word4 spot.byte)))

-- to a look-up: the refusal, the gain, the frame
abbrev pub looked_bytes : Result Entry Refusal → List ℕ
looked_bytes (Ok e) = 0 ∷ (word4 e.gain ++ frame_bytes e.frame)
looked_bytes (Err e) = number_of e ∷ (replicate 4 0 ++ replicate 17 0)

abbrev pub counted_bytes : Counts → List ℕ
counted_bytes c = word4 c.size ++ (word4 c.kept ++ (word4 c.took ++ (word4 c.seen ++ (word8 c.gain ++ word8 c.told))))

-- to a print-out: the refusal, and its length
abbrev pub printed_bytes : Result ℕ Refusal → List ℕ
printed_bytes (Ok n) = 0 ∷ word4 n
printed_bytes (Err e) = number_of e ∷ replicate 4 0

-- the bytes of an answer, beside those of a print-out
unfoldable pub answer_bytes : Answer → List ℕ
answer_bytes (Offered r) = offered_bytes r
answer_bytes (Texted r) = texted_bytes r
answer_bytes (Looked r) = looked_bytes r
answer_bytes (Counted c) = counted_bytes c
answer_bytes (Printed r) = printed_bytes r
answer_bytes Cleared = []

-- how many they are, by the call alone
abbrev pub fixed_of : Called → ℕ
fixed_of (offering x) = 28
fixed_of (reading t) = 14
fixed_of (looking i) = 22
fixed_of counting = 32
fixed_of printing = 5
fixed_of clearing = 0

-- t at the front of a buffer that held `before`, if it has room for it
unfoldable pub placed : List ℕ → List ℕ → List ℕ
placed t before = if nat_le (length t) (length before) then over t before else before
