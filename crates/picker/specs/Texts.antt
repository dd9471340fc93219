-- What a text offer answers, and what it takes in. Assumes nothing.
use Rattle.std.specs.Prelude.{◌≡◌, ℕ, ◌+◌, ◌-◌, if◌then◌else◌, List, [], ◌∷◌, length, take, Ok, Err, MatchBool, Result, ◌==◌, nat_le, nat_lt}
use Rattle.std.specs.List.{flat_map}
use Rattle.frames.specs.declared.frame.Frame.{Frame}
use Rattle.faults.specs.declared.fault.RecordFault.{RecordFault}
use Rattle.faults.specs.declared.fault.RecordFault.TheVariants.{Line, ShiftFull}
use Rattle.faults.specs.declared.fault.TextFault.{TextFault}
use Rattle.faults.specs.declared.fault.TextFault.TheVariants.{Record, LongText}
use Rattle.records.specs.Format.{shown}
use Rattle.records.specs.Reading.{read_record, fault_at, frames_in, left_in}
use Rattle.picker.specs.declared.picker.Picker.{Picker}
use Rattle.picker.specs.Offers.{Advanced}
use Rattle.objectives.specs.declared.objective.Objective.{Ghosts as Objective}
use Rattle.matroids.specs.declared.matroid.Matroid.{Ghosts as Matroid}

-- the frames of a text that a shift takes in, where `seen` were taken in before: those of its records, up to the first
-- that cannot be read, as many as the shift has room for
abbrev pub taken_in : ℕ → List ℕ → List Frame
taken_in seen text = take (1000000 - seen) (frames_in text)

-- the answer where n records were taken in, up to byte `at`, and `left` is the text behind them: n at the text's end,
-- and else the fault of the record there
abbrev pub ending : ℕ → ℕ → List ℕ → Result ℕ TextFault
ending n at [] = Ok n
ending n at (c ∷ cs) = elim (read_record (c ∷ cs)) [ Ok p ↦ Ok n | Err w ↦ Err (Record (Line (fault_at (n + 1) at w))) ]

-- how many frames were taken in, or the first fault: the record that found the shift full, or could not be read
abbrev pub text_answer : ℕ → List ℕ → Result ℕ TextFault
text_answer seen text =
    let xs = taken_in seen text in
    let n = length xs in
    let at = length (flat_map shown xs) in
    if nat_lt n (length (frames_in text)) then Err (Record (ShiftFull (n + 1) at)) else ending n at (left_in text)

-- r answers an offer of a text at p, which is q then
abbrev pub TextOffered : {W R : Type 0} → Objective W → Matroid R → Picker W R → List ℕ → Result ℕ TextFault → Picker W R → Type 0
TextOffered O M p text r q =
    MatchBool (nat_le (length text) 65536) ((r ≡ text_answer p.seen text) × Advanced O M p (taken_in p.seen text) q) ((r ≡ Err LongText) × (q ≡ p))

-- r answers an offer of the frame x of a record, of that number and start, at p, which is q then
abbrev pub RecordOffered : {W R : Type 0} → Objective W → Matroid R → Picker W R → Frame → ℕ → ℕ → Result (Unit {0}) RecordFault → Picker W R → Type 0
RecordOffered O M p x number start r q =
    MatchBool (p.seen == 1000000) ((r ≡ Err (ShiftFull number start)) × (q ≡ p)) ((r ≡ Ok tt) × Advanced O M p (x ∷ []) q)
