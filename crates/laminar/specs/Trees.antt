-- Which trees of boxes are refused, and why. Assumes nothing.
use Rattle.std.specs.Prelude.{◌≡◌, ℕ, ◌+◌, ◌≤◌, true, List, [], ◌∷◌, length, slice_index, slice_index_or, Some, None, Option, if◌then◌else◌}
use Rattle.std.specs.Option.{option_or}
use Rattle.frames.specs.declared.refusal.Refusal.TheVariants.{BadParent}
use Rattle.frames.specs.declared.setting.SettingFault.{SettingFault}
use Rattle.frames.specs.Settings.{count_fault, numbers_fault}
use Rattle.kinds.specs.Matroids.{may_hold}

-- the first parent not allowed to its box, in a list whose first parent is that of box b
abbrev pub first_bad_parent : ℕ → List ℕ → Option SettingFault
first_bad_parent b [] = None
first_bad_parent b (p ∷ ps) = if may_hold b p then first_bad_parent (b + 1) ps else Some (record { refusal = BadParent; index = b })

-- what is wrong with the settings of a tree: the lengths come first, then the caps, then the parents
unfoldable pub laminar_fault : List ℕ → List ℕ → Option SettingFault
laminar_fault caps parents = option_or (count_fault 96 parents) (option_or (numbers_fault 96 48 caps) (first_bad_parent 0 parents))

-- what holds of settings that are not refused
pub record Accepted (caps parents : List ℕ) : Type 0 where
  pub count : length caps ≡ 96
  pub paired : length parents ≡ 96
  pub limit : (i : ℕ) → slice_index caps i ≤ 48
  pub tree : (b : ℕ) → may_hold b (slice_index_or parents b 255) ≡ true
