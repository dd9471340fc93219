-- Small bags, computed. Assumes nothing.
use Rattle.std.proofs.Common.{◌≡◌, ℕ, ◌+◌, ◌*◌, ◌/◌, ◌%◌, true, false, [], ◌∷◌, refl}
use Rattle.cycles.specs.Graphs.{graphic}

-- a frame is a number: the tail's station times 256, and the head's
abbrev from : ℕ → ℕ
from x = (x / 256) % 256

abbrev to : ℕ → ℕ
to x = x % 256

abbrev frame : ℕ → ℕ → ℕ
frame a b = a * 256 + b

path : graphic from to (frame 0 1 ∷ frame 1 2 ∷ frame 255 2 ∷ []) ≡ true
unfolding graphic
path = refl

-- stations 1, 2 and 3; the second frame stands apart
triangle : graphic from to (frame 3 1 ∷ frame 7 8 ∷ frame 1 2 ∷ frame 3 2 ∷ []) ≡ false
unfolding graphic
triangle = refl

loop : graphic from to (frame 9 9 ∷ []) ≡ false
unfolding graphic
loop = refl

twin : graphic from to (frame 4 5 ∷ frame 5 4 ∷ []) ≡ false
unfolding graphic
twin = refl
