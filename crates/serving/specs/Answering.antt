-- One call of a run, answered in its place. Assumes nothing.
use Rattle.std.specs.Prelude.{◌≡◌, ℕ, List}
use Rattle.picker.specs.Calls.{Called}
use Rattle.picker.specs.Met.{Met, Carries}
use Rattle.picker.specs.Offers.{SameSettings}
use Rattle.picker.specs.declared.picker.Picker.{Picker}
use Rattle.serving.specs.Serving.{answered}
use Rattle.objectives.specs.declared.objective.Objective.{Ghosts as Objective}
use Rattle.matroids.specs.declared.matroid.Matroid.{Ghosts as Matroid}

-- the call c made q of the picker p, and v of the bytes w that its answer takes the place of
pub record Answered {W R : Type 0} (O : Objective W) (M : Matroid R) (c : Called) (p : Picker W R) (w : List ℕ) (q : Picker W R) (v : List ℕ) : Type 0 where
  pub settings : SameSettings O p q
  pub carries : Carries O M c p q
  -- by any history that led to p
  pub window : (h : List Called) → Met O M h p → v ≡ answered (O.value p.objective) (M.admits p.matroid) p.size.n h c w
