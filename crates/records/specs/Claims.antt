-- What reading and printing promise each other. Assumes nothing.
use Rattle.std.specs.Prelude.{◌≡◌, ℕ, ◌^◌, ◌<◌, ◌≤◌, true, List, [], ◌∷◌, ◌++◌, is_err, Ok, decimal}
use Rattle.std.specs.List.{flat_map, AllByRecursion}
use Rattle.frames.specs.Frames.{InRange}
use Rattle.frames.specs.declared.frame.Frame.{Frame}
use Rattle.records.specs.Format.{highest, shown_line, shown}
use Rattle.records.specs.Reading.{read_decimal_line, read_line, read_record, frames_in, left_in}
use Rattle.records.specs.declared.key.Key.{Key}

-- a text reads as a line with the value v just where v is in range and the text begins with the line that is printed of v
pub record LineStands (k : Key) (s : List ℕ) (v : ℕ) (rest : List ℕ) : Type 0 where
  pub read : read_line k s ≡ Ok (v, rest) → (v ≤ highest k) × (s ≡ shown_line k v ++ rest)
  pub printed : v ≤ highest k → s ≡ shown_line k v ++ rest → read_line k s ≡ Ok (v, rest)

-- the same of a line of any key, in shortest decimal digits
pub record DecimalStands (key : List ℕ) (most high : ℕ) (s : List ℕ) (v : ℕ) (rest : List ℕ) : Type 0 where
  pub read : read_decimal_line key most high s ≡ Ok (v, rest) → (v ≤ high) × (s ≡ (key ++ (decimal v ++ (10 ∷ []))) ++ rest)
  pub printed : v ≤ high → s ≡ (key ++ (decimal v ++ (10 ∷ []))) ++ rest → read_decimal_line key most high s ≡ Ok (v, rest)

-- a text begins with the record of x just where x is in range and the text begins with what is printed of x
pub record RecordStands (s : List ℕ) (x : Frame) (rest : List ℕ) : Type 0 where
  pub read : read_record s ≡ Ok (x, rest) → InRange x × (s ≡ shown x ++ rest)
  pub printed : InRange x → s ≡ shown x ++ rest → read_record s ≡ Ok (x, rest)

-- a text is the records of some frames, each in range, and what is left, where no record can be read
pub record Split (text : List ℕ) (fs : List Frame) (rest : List ℕ) : Type 0 where
  pub printed : text ≡ flat_map shown fs ++ rest
  pub range : AllByRecursion InRange fs
  pub stops : is_err (read_record rest) ≡ true

-- a text is split so into its frames and what is left, and in no other way
pub record TextStands (text : List ℕ) : Type 0 where
  pub splits : Split text (frames_in text) (left_in text)
  pub unique : (fs : List Frame) (rest : List ℕ) → Split text fs rest → (fs ≡ frames_in text) × (rest ≡ left_in text)

pub record ReadingStands : Type 0 where
  pub lines : (k : Key) (s : List ℕ) (v : ℕ) (rest : List ℕ) → LineStands k s v rest
  pub decimals : (key : List ℕ) (most high : ℕ) → 0 < most → high < 10 ^ most → high < 2 ^ 64 → (s : List ℕ) (v : ℕ) (rest : List ℕ) → DecimalStands key most high s v rest
  pub records : (s : List ℕ) (x : Frame) (rest : List ℕ) → RecordStands s x rest
  pub texts : (text : List ℕ) → TextStands text
