-- The two meanings of an objective, and how a call moves them. Assumes nothing.
use Rattle.std.specs.Prelude.{◌≡◌, ℕ, ◌-◌, List, [], ◌∷◌}
use Rattle.theory.specs.Laws.{Lawful}
use Rattle.frames.specs.declared.frame.Frame.{Frame}

-- what a list of frames is worth, and what is left to gain of it once some frames are added, both keep the laws
pub record ObjectiveLaws (value residual : List Frame → ℕ) : Type 0 where
  pub whole : Lawful value
  pub left : Lawful residual

-- w had x added, and is v now: the value stays, and what x gained is taken off every list with x
pub record Added {W : Type 0} (value residual : W → List Frame → ℕ) (w : W) (x : Frame) (v : W) : Type 0 where
  pub whole : (s : List Frame) → value v s ≡ value w s
  pub left : (s : List Frame) → residual v s ≡ residual w (x ∷ s) - residual w (x ∷ [])

-- w was reset, and is v now: the value stays, and all of it is to be gained again
pub record Reset {W : Type 0} (value residual : W → List Frame → ℕ) (w v : W) : Type 0 where
  pub whole : (s : List Frame) → value v s ≡ value w s
  pub left : (s : List Frame) → residual v s ≡ value w s
