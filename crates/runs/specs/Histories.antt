-- What the calls made so far lead to: the counts, the entries, the digest. Assumes nothing.
use Rattle.std.specs.Prelude.{ℕ, Bool, List, map, length}
use Rattle.theory.specs.Promise.{told}
use Rattle.theory.specs.Replay.{State, replay}
use Rattle.frames.specs.declared.entry.Entry.{Entry}
use Rattle.frames.specs.declared.frame.Frame.{Frame}
use Rattle.report.specs.declared.counts.Counts.{Counts}
use Rattle.report.specs.Digest.{digest}
use Rattle.picker.specs.Calls.{Called, arrivals}
use Rattle.picker.specs.Entries.{total}

abbrev pub entry_of : Frame × ℕ → Entry
entry_of e = record { frame = e.0; gain = e.1 }

module _ (f : List Frame → ℕ) (adm : List Frame → Bool) (n : ℕ) (h : List Called) where
  -- the replay along the arrivals
  abbrev pub after : State Frame
  after = replay f adm n (arrivals h)

  abbrev pub counts_after : Counts
  counts_after = record { size = n; kept = length after.kept; took = length after.accepted; seen = length (arrivals h); gain = total after.kept; told = told f after.accepted }

  abbrev pub entries_after : List Entry
  entries_after = map entry_of after.kept

  unfoldable pub digest_after : List ℕ
  digest_after = digest counts_after entries_after
