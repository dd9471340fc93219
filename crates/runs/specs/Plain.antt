-- What the promise of the label comes to in plain numbers. Assumes nothing.
use Rattle.std.specs.Prelude.{◌≡◌, ℕ, ◌*◌, ◌<◌, ◌≤◌, Bool, true, List, [], ◌∷◌, length, Some}
use Rattle.std.specs.List.{AllByRecursion, slice_get}
use Rattle.theory.specs.Replay.{frames, replay}
use Rattle.frames.specs.declared.frame.Frame.{Frame}
use Rattle.picker.specs.Label.{Label, Beside}

pub record Plain (f : List Frame → ℕ) (adm : List Frame → Bool) (n : ℕ) (xs : List Frame) (es : List (Frame × ℕ)) (took : ℕ) : Type 0 where
  pub allowed : adm (frames es) ≡ true
  -- no more than the size are kept, and each of them arrived
  pub kept : length es ≤ n
  pub arrived : AllByRecursion (λ x. (p : ℕ) × (slice_get xs p ≡ Some x)) (frames es)
  -- no arrival that may stand alone is worth more than four times what is kept
  pub single : 0 < n → (p : ℕ) (x : Frame) → slice_get xs p ≡ Some x → adm (x ∷ []) ≡ true → f (x ∷ []) ≤ 4 * f (frames es)
  -- all frames ever accepted are worth at most twice what is kept
  pub worth : f (replay f adm n xs).accepted ≤ 2 * f (frames es)
  -- at most 1,536 frames are accepted, and none where none is kept
  pub most : n ≤ 48 → took ≤ 1536
  pub none : es ≡ [] → took ≡ 0

abbrev pub LabelStands : Type 0
LabelStands = (f : List Frame → ℕ) (adm : List Frame → Bool) (n : ℕ) (xs : List Frame) (es : List (Frame × ℕ)) (took gain told : ℕ) → Label f adm n xs es took → Beside f adm n xs es took gain told → Plain f adm n xs es took
