-- Labels of stations, which tell independent bags from others. Assumes nothing.
use Rattle.std.specs.Prelude.{ℕ, Bool, true, false, if◌then◌else◌, List, [], ◌∷◌, ◌==◌, length, slice_index_or}
use Rattle.std.specs.Fn.{iterate}

-- the label b becomes a
abbrev pub merged : ℕ → ℕ → ℕ → ℕ
merged a b l = if l == b then a else l

-- the frames are taken in turn: no at one whose ends have equal labels, and else each label that is the head's becomes
-- the tail's
abbrev pub joins : {A : Type 0} → (A → ℕ) → (A → ℕ) → (ℕ → ℕ) → List A → Bool
joins tail head label [] = true
joins tail head label (x ∷ s) = if label (tail x) == label (head x) then false else joins tail head (λ w. merged (label (tail x)) (label (head x)) (label w)) s

-- the same with the labels in a list, by station; a station past its end has itself for a label
unfoldable pub joins_by : {A : Type 0} → (A → ℕ) → (A → ℕ) → List ℕ → List A → Bool
joins_by tail head labels s = joins tail head (λ w. slice_index_or labels w w) s

-- the station that w leads to by its label, the label of that station, and so on, in as many steps as there are stations;
-- where no label is greater than its station, it is its own label
unfoldable pub root : List ℕ → ℕ → ℕ
root labels w = iterate (λ v. slice_index_or labels v v) (length labels) w
