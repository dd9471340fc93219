-- What a picker is opened with. Assumes nothing.
use Rattle.std.specs.Prelude.{◌≡◌, ℕ, Bool, List}
use Rattle.frames.specs.declared.frame.Frame.{Frame}
use Rattle.exports.specs.declared.settings.Settings.{Settings}
use Rattle.objectives.specs.declared.objective.Objective.{Ghosts as Objective}
use Rattle.matroids.specs.declared.matroid.Matroid.{Ghosts as Matroid}

-- the settings s do as the size n, the objective f and the matroid adm say
pub record Opens {W R : Type 0} (O : Objective W) (M : Matroid R) (s : Settings W R) (n : ℕ) (f : List Frame → ℕ) (adm : List Frame → Bool) : Type 0 where
  pub size : s.size.n ≡ n
  pub worth : (u : List Frame) → O.value s.objective u ≡ f u
  pub rule : M.admits s.matroid ≡ adm
