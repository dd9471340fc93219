-- The look-ups of a picker. Assumes nothing.
use Rattle.std.specs.Prelude.{ℕ, ◌<◌, length, take, Result, slice_index_or}
use Rattle.std.specs.Option.{ok_or}
use Rattle.std.specs.List.{slice_get}
use Rattle.frames.specs.declared.entry.Entry.{Entry}
use Rattle.frames.specs.declared.refusal.Refusal.{Refusal}
use Rattle.frames.specs.declared.refusal.Refusal.TheVariants.{NoPlace}
use Rattle.report.specs.declared.counts.Counts.{Counts}
use Rattle.report.specs.Digest.{digest, PlaceReads}
use Rattle.kept.specs.Tables.{held}
use Rattle.picker.specs.declared.picker.Picker.{Picker}

abbrev pub counts_of : {W R : Type 0} → Picker W R → Counts
counts_of p = record { size = p.size.n; kept = length (held p.table); took = p.took; seen = p.seen; gain = p.gain; told = p.told }

-- the kept frame at a place with its gain, unless the place is at or past the kept count
abbrev pub look_of : {W R : Type 0} → Picker W R → ℕ → Result Entry Refusal
look_of p i = ok_or (slice_get p.table i) NoPlace

-- the digest's part for each place, behind those of the places before it, reads back as the place, and the gain and the
-- frame kept there
abbrev pub PlacesBack : {W R : Type 0} → Picker W R → Type 0
PlacesBack p =
    (i : ℕ) (d : Entry) → i < length p.table → PlaceReads (digest (counts_of p) (take i p.table)) (digest (counts_of p) p.table) i (slice_index_or p.table i d)
