-- Which tables of steps are refused, and why. Assumes nothing.
use Rattle.std.specs.Prelude.{ℕ, ◌+◌, ◌%◌, ◌||◌, List, [], ◌∷◌, Some, None, Option, if◌then◌else◌, ◌==◌, nat_le}
use Rattle.std.specs.Option.{option_or}
use Rattle.frames.specs.declared.refusal.Refusal.TheVariants.{Over, Rising}
use Rattle.frames.specs.declared.setting.SettingFault.{SettingFault}
use Rattle.frames.specs.Settings.{count_fault}

-- the first step above the highest, or above the one before it in its lane, where every eighth step begins a lane; the
-- list's first step has the index i, and follows the step p
abbrev pub first_wrong : ℕ → ℕ → ℕ → List ℕ → Option SettingFault
first_wrong highest i p [] = None
first_wrong highest i p (n ∷ ns) =
    if nat_le n highest
    then (if i % 8 == 0 || nat_le n p then first_wrong highest (i + 1) n ns else Some (record { refusal = Rising; index = i }))
    else Some (record { refusal = Over; index = i })

-- what is wrong with a list that should have `count` steps: its length comes first
unfoldable pub steps_fault : ℕ → ℕ → List ℕ → Option SettingFault
steps_fault count highest ns = option_or (count_fault count ns) (first_wrong highest 0 0 ns)
