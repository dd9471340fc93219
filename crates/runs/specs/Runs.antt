-- What each call of a run answers, and what the print-outs leave in the sheet, by the calls alone. Assumes nothing.
use Rattle.std.specs.Prelude.{ℕ, Bool, if◌then◌else◌, List, [], ◌∷◌, ◌++◌, map, length, Some, None, Ok, Err, Option, Result, nat_le}
use Rattle.std.specs.Option.{ok_or}
use Rattle.std.specs.List.{slice_get}
use Rattle.theory.specs.Replay.{gain_of}
use Rattle.frames.specs.declared.frame.Frame.{Frame}
use Rattle.frames.specs.declared.refusal.Refusal.{Refusal}
use Rattle.frames.specs.declared.refusal.Refusal.TheVariants.{NoPlace, ShortSheet}
use Rattle.faults.specs.declared.fault.TextFault.TheVariants.{LongText}
use Rattle.records.specs.Sheets.{over}
use Rattle.exchange.specs.declared.outcome.Outcome.{Outcome}
use Rattle.exchange.specs.Outcomes.{outcome_of}
use Rattle.picker.specs.Calls.{Called, offering, reading, looking, counting, printing, clearing, arrivals}
use Rattle.picker.specs.Offers.{refusal_of}
use Rattle.picker.specs.Texts.{text_answer}
use Rattle.runs.specs.declared.call.Call.{Call}
use Rattle.runs.specs.declared.call.Call.TheVariants.{Offer, Text, Look, Counts, Print, Clear}
use Rattle.runs.specs.declared.call.Answer.{Answer}
use Rattle.runs.specs.declared.call.Answer.TheVariants.{Offered, Texted, Looked, Counted, Printed, Cleared}
use Rattle.runs.specs.Histories.{after, counts_after, entries_after, digest_after}

-- a call of the code as a call of a history
abbrev pub called : Call → Called
called (Offer x) = offering x
called (Text t) = reading t.now
called (Look i) = looking i
called Counts = counting
called Print = printing
called Clear = clearing

abbrev pub history : List Call → List Called
history cs = map called cs

abbrev pub offer_answer : Option Refusal → Outcome → Result Outcome Refusal
offer_answer None o = Ok o
offer_answer (Some e) o = Err e

module _ (f : List Frame → ℕ) (adm : List Frame → Bool) (n : ℕ) where
  -- what a call answers after the calls h, where the sheet holds s
  abbrev pub answer_after : List Called → List ℕ → Called → Answer
  answer_after h s (offering x) = Offered (offer_answer (refusal_of x (length (arrivals h))) (outcome_of adm n (after f adm n h).kept x (gain_of f (after f adm n h) x)))
  answer_after h s (reading t) = Texted (if nat_le (length t) 65536 then text_answer (length (arrivals h)) t else Err LongText)
  answer_after h s (looking i) = Looked (ok_or (slice_get (entries_after f adm n h) i) NoPlace)
  answer_after h s counting = Counted (counts_after f adm n h)
  answer_after h s printing = Printed (if nat_le (length (digest_after f adm n h)) (length s) then Ok (length (digest_after f adm n h)) else Err ShortSheet)
  answer_after h s clearing = Cleared

  -- what the sheet holds after a call: a print-out that it has room for stands at its front
  abbrev pub sheet_after : List Called → List ℕ → Called → List ℕ
  sheet_after h s (offering x) = s
  sheet_after h s (reading t) = s
  sheet_after h s (looking i) = s
  sheet_after h s counting = s
  sheet_after h s printing = if nat_le (length (digest_after f adm n h)) (length s) then over (digest_after f adm n h) s else s
  sheet_after h s clearing = s

  -- the calls cs, after the calls h: what the sheet holds then, and the last answer
  abbrev pub run_on : List Called → List Called → List ℕ → Option Answer → List ℕ × Option Answer
  run_on h [] s a = (s, a)
  run_on h (c ∷ cs) s a = run_on (h ++ c ∷ []) cs (sheet_after h s c) (Some (answer_after h s c))
