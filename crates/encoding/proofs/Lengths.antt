-- How many bytes an answer has. Assumes nothing.
use Rattle.std.proofs.Common.{◌≡◌, ℕ, ◌≤◌, Bool, List, length, Ok, Err, Result, refl, arith}
use Rattle.exchange.specs.declared.outcome.Outcome.{Outcome}
use Rattle.exchange.specs.declared.outcome.Outcome.TheVariants.{Empty, Kept, Swapped, Light, Barred}
use Rattle.faults.specs.declared.fault.TextFault.{TextFault}
use Rattle.frames.specs.declared.entry.Entry.{Entry}
use Rattle.frames.specs.declared.frame.Frame.{Frame}
use Rattle.frames.specs.declared.refusal.Refusal.{Refusal}
use Rattle.picker.specs.Calls.{Called, offering, reading, looking, counting, printing, clearing}
use Rattle.runs.specs.Runs.{answer_after}
use Rattle.runs.specs.declared.call.Answer.{Answer}
use Rattle.runs.specs.declared.call.Answer.TheVariants.{Offered, Texted, Looked, Counted, Printed, Cleared}
use Rattle.encoding.specs.Answers.{answer_bytes, fixed_of, offered_bytes, outcome_bytes, texted_bytes, looked_bytes, printed_bytes}

outcome_long : (o : Outcome) → length (outcome_bytes o) ≡ 28
outcome_long Empty = refl
outcome_long (Kept p g) = refl
outcome_long (Swapped p g x) = refl
outcome_long (Light p g l) = refl
outcome_long (Barred g) = refl

offered_long : (r : Result Outcome Refusal) → length (offered_bytes r) ≡ 28
offered_long (Ok o) = outcome_long o
offered_long (Err e) = refl

texted_long : (r : Result ℕ TextFault) → length (texted_bytes r) ≡ 14
texted_long (Ok n) = refl
texted_long (Err f) = refl

looked_long : (r : Result Entry Refusal) → length (looked_bytes r) ≡ 22
looked_long (Ok e) = refl
looked_long (Err e) = refl

printed_long : (r : Result ℕ Refusal) → length (printed_bytes r) ≡ 5
printed_long (Ok n) = refl
printed_long (Err e) = refl

abbrev answer_length : Answer → ℕ
answer_length (Offered r) = 28
answer_length (Texted r) = 14
answer_length (Looked r) = 22
answer_length (Counted c) = 32
answer_length (Printed r) = 5
answer_length Cleared = 0

answer_long : (a : Answer) → length (answer_bytes a) ≡ answer_length a
unfolding answer_bytes
answer_long (Offered r) = offered_long r
answer_long (Texted r) = texted_long r
answer_long (Looked r) = looked_long r
answer_long (Counted c) = refl
answer_long (Printed r) = printed_long r
answer_long Cleared = refl

-- an answer's own bytes are as many as its call has
pub fixed_long : (f : List Frame → ℕ) (adm : List Frame → Bool) (n : ℕ) (h : List Called) (s : List ℕ) (c : Called) → length (answer_bytes (answer_after f adm n h s c)) ≡ fixed_of c
fixed_long f adm n h s (offering x) = answer_long (answer_after f adm n h s (offering x))
fixed_long f adm n h s (reading t) = answer_long (answer_after f adm n h s (reading t))
fixed_long f adm n h s (looking i) = answer_long (answer_after f adm n h s (looking i))
fixed_long f adm n h s counting = answer_long (answer_after f adm n h s counting)
fixed_long f adm n h s printing = answer_long (answer_after f adm n h s printing)
fixed_long f adm n h s clearing = answer_long (answer_after f adm n h s clearing)

pub few_fixed : (c : Called) → fixed_of c ≤ 32
few_fixed (offering x) = omega arith
few_fixed (reading t) = omega arith
few_fixed (looking i) = omega arith
few_fixed counting = omega arith
few_fixed printing = omega arith
few_fixed clearing = omega arith
