-- The promise, at any point of a run. Assumes nothing.
use Rattle.std.specs.Prelude.{ℕ, Bool, List, length}
use Rattle.theory.specs.Promise.{told}
use Rattle.frames.specs.declared.frame.Frame.{Frame}
use Rattle.picker.specs.Calls.{Called, arrivals}
use Rattle.picker.specs.Entries.{total}
use Rattle.picker.specs.Label.{Label, Beside}
use Rattle.runs.specs.Histories.{after}

-- whatever calls were made, the promise of the label holds of the frames and the counts that the answers tell of
pub record Promises (f : List Frame → ℕ) (adm : List Frame → Bool) (n : ℕ) : Type 0 where
  pub label : (h : List Called) → Label f adm n (arrivals h) (after f adm n h).kept (length (after f adm n h).accepted)
  pub bounds : (h : List Called) → Beside f adm n (arrivals h) (after f adm n h).kept (length (after f adm n h).accepted) (total (after f adm n h).kept) (told f (after f adm n h).accepted)
