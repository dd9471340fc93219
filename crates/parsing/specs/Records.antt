-- What is told of one record of a text. Assumes nothing.
use Rattle.std.specs.Prelude.{◌≡◌, ℕ, ◌+◌, ◌≤◌, List, ◌++◌, length, drop, Ok, Err, Result, MatchResult, ◌≢◌}
use Rattle.frames.specs.Frames.{InRange}
use Rattle.frames.specs.declared.frame.Frame.{Frame}
use Rattle.records.specs.Format.{shown}
use Rattle.records.specs.Reading.{Wrong, read_record, fault_at}
use Rattle.records.specs.declared.key.Key.{Key}
use Rattle.lines.specs.Lines.{Valued}
use Rattle.parsing.specs.declared.read_record.Lines.{Lines}
use Rattle.faults.specs.declared.fault.RecordFault.{RecordFault}
use Rattle.faults.specs.declared.fault.RecordFault.TheVariants.{Line}

-- the record x stands at byte `at` of a text, and the text goes on at `behind`
pub record Stands (text : List ℕ) (at : ℕ) (x : Frame) (behind : ℕ) : Type 0 where
  pub reads : read_record (drop at text) ≡ Ok (x, drop behind text)
  pub grows : behind ≡ at + length (shown x)
  pub within : behind ≤ length text

-- no record stands at byte `at` of a text: f is what is wrong with the record of that number
abbrev pub Refused : List ℕ → ℕ → ℕ → RecordFault → Type 0
Refused text at number f = (w : Wrong) × (read_record (drop at text) ≡ Err w) × (f ≡ Line (fault_at number at w))

abbrev pub RecordRead : List ℕ → ℕ → ℕ → Result (Frame × ℕ) RecordFault → Type 0
RecordRead text at number r = MatchResult r (λ p. Stands text at p.0 p.1) (λ f. Refused text at number f)

-- the same in the format's words: the text goes on with what is printed of a frame in range, or with no such thing
abbrev pub RecordMeans : List ℕ → ℕ → Result (Frame × ℕ) RecordFault → Type 0
RecordMeans text at r =
    MatchResult r (λ p. InRange p.0 × (drop at text ≡ shown p.0 ++ drop p.1 text)) (λ _. (x : Frame) (rest : List ℕ) → InRange x → drop at text ≢ shown x ++ rest)

-- the next line of l is that of k and has the value v, and m stands behind it
pub record LinePassed (k : Key) (l : Lines) (v : ℕ) (m : Lines) : Type 0 where
  pub text : m.text ≡ l.text
  pub place : m.place ≡ l.place
  pub valued : Valued k l.text.now l.at v m.at
