-- What one call of a run does. Assumes nothing.
use Rattle.std.specs.Prelude.{◌≡◌, ℕ, List}
use Rattle.picker.specs.declared.picker.Picker.{Picker}
use Rattle.picker.specs.Calls.{Called}
use Rattle.picker.specs.Met.{Met, Carries}
use Rattle.picker.specs.Offers.{SameSettings}
use Rattle.runs.specs.declared.call.Answer.{Answer}
use Rattle.runs.specs.Runs.{answer_after, sheet_after}
use Rattle.objectives.specs.declared.objective.Objective.{Ghosts as Objective}
use Rattle.matroids.specs.declared.matroid.Matroid.{Ghosts as Matroid}

-- the call c made q of the picker p and t of the sheet s, and answered r
pub record Carried {W R : Type 0} (O : Objective W) (M : Matroid R) (c : Called) (p : Picker W R) (s : List ℕ) (r : Answer) (q : Picker W R) (t : List ℕ) : Type 0 where
  pub settings : SameSettings O p q
  pub carries : Carries O M c p q
  -- the answer and the sheet are those of any history that led to p
  pub answer : (h : List Called) → Met O M h p → r ≡ answer_after (O.value p.objective) (M.admits p.matroid) p.size.n h s c
  pub sheet : (h : List Called) → Met O M h p → t ≡ sheet_after (O.value p.objective) (M.admits p.matroid) p.size.n h s c
