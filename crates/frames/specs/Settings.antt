-- Which lists of settings are refused, and why. Assumes nothing.
use Rattle.std.specs.Prelude.{ℕ, ◌+◌, if◌then◌else◌, List, [], ◌∷◌, length, Some, None, Option, ◌==◌, nat_le}
use Rattle.std.specs.Option.{option_or}
use Rattle.frames.specs.declared.refusal.Refusal.TheVariants.{Over, Miscount}
use Rattle.frames.specs.declared.setting.SettingFault.{SettingFault}

-- the first number above the highest, in a list whose first number has the index i
abbrev pub first_over : ℕ → ℕ → List ℕ → Option SettingFault
first_over highest i [] = None
first_over highest i (n ∷ ns) = if nat_le n highest then first_over highest (i + 1) ns else Some (record { refusal = Over; index = i })

-- what is wrong with a list that should have `count` numbers, whatever they are
abbrev pub count_fault : ℕ → List ℕ → Option SettingFault
count_fault count ns = if length ns == count then None else Some (record { refusal = Miscount; index = 0 })

-- what is wrong with a list that should have `count` numbers, each at most the highest: its length comes first
unfoldable pub numbers_fault : ℕ → ℕ → List ℕ → Option SettingFault
numbers_fault count highest ns = option_or (count_fault count ns) (first_over highest 0 ns)
