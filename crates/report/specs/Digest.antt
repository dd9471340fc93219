-- What the product prints besides a frame's record. Assumes nothing.
use Rattle.std.specs.Prelude.{◌≡◌, ℕ, ◌+◌, ◌<◌, ◌≤◌, List, [], ◌∷◌, ◌++◌, length, take, Ok, codes, decimal, slice_index_or}
use Rattle.frames.specs.Refusals.{number_of}
use Rattle.faults.specs.declared.fault.TextFault.{TextFault}
use Rattle.faults.specs.Faults.{text_refusal, text_spot}
use Rattle.records.specs.Format.{shown}
use Rattle.records.specs.Reading.{read_decimal_line, read_record}
use Rattle.frames.specs.Frames.{InRange}
use Rattle.frames.specs.declared.frame.Frame.{Frame}
use Rattle.report.specs.declared.counts.Counts.{Counts}
use Rattle.frames.specs.declared.entry.Entry.{Entry}

-- a key with its `=`, the shortest decimal digits of n, and a line feed
abbrev pub decimal_line : List ℕ → ℕ → List ℕ
decimal_line key n = key ++ (decimal n ++ (10 ∷ []))

-- the six counts
unfoldable pub count_lines : Counts → List ℕ
count_lines c =
    decimal_line (codes "size=") c.size ++ (decimal_line (codes "kept=") c.kept ++ (decimal_line (codes "took=") c.took
    ++ (decimal_line (codes "seen=") c.seen ++ (decimal_line (codes "gain=") c.gain ++ decimal_line (codes "told=") c.told))))

-- a place, the gain there, and the record of the frame there
unfoldable pub place_lines : ℕ → Entry → List ℕ
place_lines i e = decimal_line (codes "place=") i ++ (decimal_line (codes "worth=") e.gain ++ shown e.frame)

-- the places from i on
abbrev pub places_from : ℕ → List Entry → List ℕ
places_from i [] = []
places_from i (e ∷ es) = place_lines i e ++ places_from (i + 1) es

-- the counts, then each place
unfoldable pub digest : Counts → List Entry → List ℕ
digest c es = count_lines c ++ places_from 0 es

-- the record of a frame in range reads back as that frame, with the text behind it untouched
abbrev pub RecordBack : Frame → Type 0
RecordBack x = InRange x → (rest : List ℕ) → read_record (shown x ++ rest) ≡ Ok (x, rest)

-- behind `front` the text `whole` reads as the place i, the gain of e and the record of its frame
pub record PlaceReads (front whole : List ℕ) (i : ℕ) (e : Entry) : Type 0 where
  pub behind : List ℕ
  pub worth : List ℕ
  pub record_at : List ℕ
  pub back : List ℕ
  pub parts : whole ≡ front ++ behind
  pub place_reads : read_decimal_line (codes "place=") 20 18446744073709551615 behind ≡ Ok (i, worth)
  pub worth_reads : read_decimal_line (codes "worth=") 10 4294967295 worth ≡ Ok (e.gain, record_at)
  pub frame_reads : read_record record_at ≡ Ok (e.frame, back)

-- each kept frame that may be taken in stands in the digest behind the places before it, and reads as it was kept
abbrev pub ReadsBack : Counts → List Entry → Type 0
ReadsBack c es =
    (i : ℕ) (d : Entry) → i < length es → (slice_index_or es i d).gain ≤ 4294967295 → InRange (slice_index_or es i d).frame
    → PlaceReads (digest c (take i es)) (digest c es) i (slice_index_or es i d)

-- why and where a text stopped
unfoldable pub fault_lines : TextFault → List ℕ
fault_lines f =
    decimal_line (codes "fault=") (number_of (text_refusal f)) ++ (decimal_line (codes "record=") (text_spot f).«record»
    ++ (decimal_line (codes "line=") (text_spot f).line ++ decimal_line (codes "byte=") (text_spot f).byte))
