-- Settings that stay. Assumes nothing.
use Rattle.std.proofs.Common.{refl, ◌∙◌}
use Rattle.picker.specs.declared.picker.Picker.{Picker}
use Rattle.picker.specs.Offers.{SameSettings}
use Rattle.objectives.specs.declared.objective.Objective.{Ghosts as Objective}

module _ {W R : Type 0} (O : Objective W) where
  pub settings_same : (p : Picker W R) → SameSettings O p p
  settings_same p = record { size = refl; matroid = refl; value = λ s. refl }

  pub settings_on : {p q r : Picker W R} → SameSettings O p q → SameSettings O q r → SameSettings O p r
  settings_on h k = record { size = k.size ∙ h.size; matroid = k.matroid ∙ h.matroid; value = λ s. k.value s ∙ h.value s }
