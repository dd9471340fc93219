-- The promise, of a picker of the code: where a run of calls leads a picker, and what then holds of it.
use Rattle.std.specs.Prelude.{List, [], ◌∷◌, ◌++◌}
use Rattle.kept.specs.Tables.{held}
use Rattle.picker.specs.declared.picker.Picker.{Picker}
use Rattle.picker.specs.Calls.{Called, arrivals}
use Rattle.picker.specs.Label.{Label, Beside}
use Rattle.picker.specs.Offers.{Standing, After}
use Rattle.objectives.specs.declared.objective.Objective.{Ghosts as Objective}
use Rattle.matroids.specs.declared.matroid.Matroid.{Ghosts as Matroid}

-- nothing is kept or counted
abbrev pub nothing : Standing
nothing = record { kept = []; took = 0; seen = 0; tells = 0 }

module _ {W R : Type 0} (O : Objective W) (M : Matroid R) where
  -- p stands where the calls h lead from an opening
  abbrev pub Met : List Called → Picker W R → Type 0
  Met h p = After O M (O.value p.objective) p.matroid p.size.n nothing (arrivals h) p

  -- the promise, of a picker after the calls h
  abbrev pub Labelled : List Called → Picker W R → Type 0
  Labelled h p = Label (O.value p.objective) (M.admits p.matroid) p.size.n (arrivals h) (held p.table) p.took

  abbrev pub Bounded : List Called → Picker W R → Type 0
  Bounded h p = Beside (O.value p.objective) (M.admits p.matroid) p.size.n (arrivals h) (held p.table) p.took p.gain p.told

  -- a call c that made q of p goes on from any history to that history with the call
  abbrev pub Carries : Called → Picker W R → Picker W R → Type 0
  Carries c p q = (h : List Called) → Met h p → Met (h ++ c ∷ []) q

  -- the promise holds of p, whatever calls led to it
  abbrev pub Promises : Picker W R → Type 0
  Promises p = (h : List Called) → Met h p → Labelled h p × Bounded h p
