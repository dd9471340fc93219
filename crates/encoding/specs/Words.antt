-- Numbers as bytes, the lowest first. Assumes nothing.
use Rattle.std.specs.Prelude.{ℕ, List}
use Rattle.std.specs.Int.{w32, w64, to_le_bytes}

-- the lowest four bytes of a number
abbrev pub word4 : ℕ → List ℕ
word4 n = to_le_bytes w32 n

-- the lowest eight
abbrev pub word8 : ℕ → List ℕ
word8 n = to_le_bytes w64 n
