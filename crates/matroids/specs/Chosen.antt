-- The frames that a 64-bit set chooses from a list. Assumes nothing.
use Rattle.std.specs.Prelude.{ℕ, ◌/◌, ◌%◌, List, [], ◌∷◌, if◌then◌else◌, ◌==◌}

-- bit i of n chooses place i; a bit past the list's end chooses nothing
abbrev pub chosen : {A : Type 0} → List A → ℕ → List A
chosen [] n = []
chosen (x ∷ xs) n = if n % 2 == 1 then x ∷ chosen xs (n / 2) else chosen xs (n / 2)
