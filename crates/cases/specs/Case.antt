-- What a worked case says, and when it holds. Assumes nothing.
use Rattle.std.specs.Prelude.{◌≡◌, ℕ, ◌-◌, ◌*◌, ◌≤◌, Bool, true, List, [], ◌∷◌, ◌++◌, map, length, replicate, Some, None, Ok, Err, Result}
use Rattle.std.specs.List.{slice_get}
use Rattle.theory.specs.Bag.{Drawn}
use Rattle.theory.specs.Replay.{frames, replay}
use Rattle.frames.specs.declared.frame.Frame.{Frame}
use Rattle.frames.specs.declared.refusal.Refusal.{Refusal}
use Rattle.frames.specs.Refusals.{number_of}
use Rattle.frames.specs.Settings.{numbers_fault}
use Rattle.kinds.specs.Matroids.{partition, laminar}
use Rattle.kinds.specs.Objectives.{coverage, uncovered, concave, steps_of}
use Rattle.cycles.specs.Graphs.{graphic}
use Rattle.concave.specs.Steps.{steps_fault}
use Rattle.laminar.specs.Trees.{laminar_fault}
use Rattle.exchange.specs.declared.outcome.Outcome.{Outcome}
use Rattle.exchange.specs.Outcomes.{outcome_of}
use Rattle.kept.specs.Sizes.{size_answer}
use Rattle.records.specs.declared.key.Key.TheVariants.{Look}
use Rattle.spots.specs.Faults.{line_refusal}
use Rattle.records.specs.Reading.{Amiss, read_line, line_fault_at}
use Rattle.records.specs.Sheets.{over}
use Rattle.picker.specs.Calls.{Called, offering, reading, printing, arrivals}
use Rattle.picker.specs.Label.{Label, Beside}
use Rattle.runs.specs.declared.call.Answer.{Answer}
use Rattle.runs.specs.declared.call.Answer.TheVariants.{Offered, Texted, Printed}
use Rattle.runs.specs.Runs.{answer_after, run_on}
use Rattle.cases.specs.Five.{shot}
use Rattle.cases.specs.Program.{places, weights, caps}

-- a frame that joins two stations
abbrev pub hand_over : ℕ × ℕ → Frame
hand_over e = record { number = 0; marks = 0; look = 0; lane = 0; tail = e.0; head = e.1; side = 0 }

abbrev pub on_lane : ℕ → Frame
on_lane l = shot 0 0 l

-- 512 steps: the first ones, and 0 behind them
abbrev pub step_table : List ℕ → List ℕ
step_table steps = steps ++ replicate (512 - length steps) 0

-- a size's answer, with the number of the refusal
abbrev pub size_number : Result ℕ Refusal → Result ℕ ℕ
size_number (Ok n) = Ok n
size_number (Err e) = Err (number_of e)

-- a line's answer, with the number of the refusal
abbrev pub look_number : Result (ℕ × List ℕ) Amiss → Result (ℕ × List ℕ) ℕ
look_number (Ok p) = Ok p
look_number (Err a) = Err (number_of (line_refusal (line_fault_at 1 0 Look 0 a)))

-- a value with the text behind it
abbrev pub before : List ℕ → Result ℕ ℕ → Result (ℕ × List ℕ) ℕ
before rest (Ok v) = Ok (v, rest)
before rest (Err e) = Err e

-- what frames are worth to the program, which may stand together, and the bytes that it prints into
abbrev pub worth : List Frame → ℕ
worth = coverage (λ x. x.marks) weights

abbrev pub admits : List Frame → Bool
admits = partition (λ x. x.lane) caps

abbrev pub sheet : List ℕ
sheet = replicate 512 0

-- what the program's picker answers to the calls cs, one after the other, after the calls h
abbrev pub answers : List Called → List Called → List Answer
answers h [] = []
answers h (c ∷ cs) = answer_after worth admits places h sheet c ∷ answers (h ++ c ∷ []) cs

-- a case: what is given, and last what is expected. A number that is refused is expected as `Err` with the refusal's
-- number
pub data Case : Type 0 where
  -- frames offered to the program's picker, and their outcomes
  offered : List Frame → List Outcome → Case
  -- frames offered to the program's picker, some of their places, and what the kept frames and those there are worth
  outdone : List Frame → List ℕ → ℕ → ℕ → Case
  -- a size, and of any shift of that size, by its label: how many frames are kept, how many are ever accepted, and how
  -- many times the worth of the kept frames those are worth, and a frame that may stand alone; all at most
  labelled : ℕ → ℕ → ℕ → ℕ → ℕ → Case
  -- a text offered to the program's picker, its frames, and the digest that is printed then
  printed : List ℕ → List Frame → List ℕ → Case
  -- a size
  size : ℕ → Result ℕ ℕ → Case
  -- 64 weights, the marks of a frame, and its gain
  marked : List ℕ → ℕ → ℕ → Case
  -- the first steps of a lane, before steps of 0, how many frames of that lane there are, and what they are worth
  stepped : List ℕ → ℕ → ℕ → Case
  -- hand-overs from station to station, and whether they stand together
  joined : List (ℕ × ℕ) → Bool → Case
  -- the caps and the parents of a tree, the lanes of frames, and whether these stand together
  boxed : List ℕ → List ℕ → List ℕ → Bool → Case
  -- the gains of two kept frames, a newcomer's gain, and its outcome, where it may take either place; it may name the
  -- frame of place 0
  weighed : ℕ → ℕ → ℕ → (Frame → Outcome) → Case
  -- a text with a line of look at its front, and the value that is read, whatever stands behind it
  look : List ℕ → Result ℕ ℕ → Case
  -- the same where nothing stands behind it
  look_at_end : List ℕ → Result ℕ ℕ → Case

-- what a case says, in the words of the contracts; where it has settings, they are accepted
abbrev pub Holds : Case → Type 0
Holds (offered xs os) = answers [] (map offering xs) ≡ map (λ o. Offered (Ok o)) os
Holds (outdone xs ps v w) =
    (worth (frames (replay worth admits places xs).kept) ≡ v)
    × ((c : List Frame) × (Drawn xs ps c × (admits c ≡ true) × (worth c ≡ w)))
Holds (labelled n k m t u) =
    (f : List Frame → ℕ) (adm : List Frame → Bool) (xs : List Frame) (es : List (Frame × ℕ)) (took gain told : ℕ)
    → Label f adm n xs es took → Beside f adm n xs es took gain told
    → (length es ≤ k) × (took ≤ m) × (f (replay f adm n xs).accepted ≤ t * f (frames es))
    × ((p : ℕ) (x : Frame) → slice_get xs p ≡ Some x → adm (x ∷ []) ≡ true → f (x ∷ []) ≤ u * f (frames es))
    × (es ≡ [] → took ≡ 0)
Holds (printed text xs out) =
    (arrivals (reading text ∷ []) ≡ xs) × (answers [] (reading text ∷ []) ≡ Texted (Ok (length xs)) ∷ [])
    × (run_on worth admits places [] (reading text ∷ printing ∷ []) sheet None ≡ (over out sheet, Some (Printed (Ok (length out)))))
Holds (size n r) = size_number (size_answer n) ≡ r
Holds (marked ws m g) =
    (numbers_fault 64 67108863 ws ≡ None) × (coverage (λ x. x.marks) ws (shot 0 m 0 ∷ []) ≡ g)
    × (coverage (λ x. x.marks) (uncovered 0 ws) (shot 0 m 0 ∷ []) ≡ g)
Holds (stepped steps k v) =
    (steps_fault 512 8388607 (step_table steps) ≡ None) × (concave (λ x. x.lane) (steps_of (step_table steps)) (replicate k (on_lane 0)) ≡ v)
Holds (joined es b) = graphic (λ x. x.tail) (λ x. x.head) (map hand_over es) ≡ b
Holds (boxed cs ps ls b) = (laminar_fault cs ps ≡ None) × (laminar (λ x. x.lane) ps cs (map on_lane ls) ≡ b)
Holds (weighed v w g o) =
    (adm : List Frame → Bool) (a b x : Frame) → adm (x ∷ b ∷ []) ≡ true → adm (x ∷ a ∷ []) ≡ true
    → outcome_of adm 2 ((a, v) ∷ (b, w) ∷ []) x g ≡ o a
Holds (look s r) = (rest : List ℕ) → look_number (read_line Look (s ++ rest)) ≡ before rest r
Holds (look_at_end s r) = look_number (read_line Look s) ≡ before [] r
