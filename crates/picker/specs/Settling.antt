-- What a frame that is accepted makes of a picker. Assumes nothing.
use Rattle.std.specs.Prelude.{◌≡◌, ℕ, ◌+◌, ◌-◌, List, [], ◌∷◌}
use Rattle.frames.specs.declared.frame.Frame.{Frame}
use Rattle.kept.specs.Tables.{held}
use Rattle.picker.specs.declared.picker.Picker.{Picker}
use Rattle.picker.specs.Entries.{total}
use Rattle.picker.specs.Offers.{SameSettings}
use Rattle.objectives.specs.declared.objective.Objective.{Ghosts as Objective}

-- q is p after x was accepted with gain g, and es are kept then
pub record Accepting {W R : Type 0} (O : Objective W) (x : Frame) (g : ℕ) (es : List (Frame × ℕ)) (p q : Picker W R) : Type 0 where
  pub kept : held q.table ≡ es
  pub took : q.took ≡ p.took + 1
  pub seen : q.seen ≡ p.seen
  pub gain : q.gain ≡ total es
  pub tells : q.told ≡ p.told + g
  pub settings : SameSettings O p q
  -- what x gained is taken off every list with x
  pub left : (s : List Frame) → O.residual q.objective s ≡ O.residual p.objective (x ∷ s) - O.residual p.objective (x ∷ [])
