-- What a table of kept frames holds. Assumes nothing.
use Rattle.std.specs.Prelude.{ℕ, List, map, slice_index, slice_index_or}
use Rattle.theory.specs.Replay.{frames, gains}
use Rattle.frames.specs.declared.frame.Frame.{Frame}
use Rattle.frames.specs.declared.entry.Entry.{Entry}
use Rattle.kept.specs.declared.table.TableFull.{TableFull}

-- that no place is left
abbrev pub table_full : TableFull
table_full = record {}

-- the kept frames with their gains, by place
abbrev pub held : List Entry → List (Frame × ℕ)
held es = map (λ e. (e.frame, e.gain)) es

abbrev pub no_frame : Frame
no_frame = record { number = 0; marks = 0; look = 0; lane = 0; tail = 0; head = 0; side = 0 }

abbrev pub frame_at : List (Frame × ℕ) → ℕ → Frame
frame_at es p = slice_index_or (frames es) p no_frame

abbrev pub gain_at : List (Frame × ℕ) → ℕ → ℕ
gain_at es p = slice_index (gains es) p
