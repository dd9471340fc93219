-- The sizes that a picker may have. Assumes nothing.
use Rattle.std.specs.Prelude.{ℕ, if◌then◌else◌, ◌&&◌, Ok, Err, Result, nat_le}
use Rattle.frames.specs.declared.refusal.Refusal.{Refusal}
use Rattle.frames.specs.declared.refusal.Refusal.TheVariants.{BadSize}
use Rattle.kept.specs.declared.size.Size.{Size}

-- 1 to 48 frames
abbrev pub size_answer : ℕ → Result ℕ Refusal
size_answer n = if nat_le 1 n && nat_le n 48 then Ok n else Err BadSize

-- an answer with the size as a number
abbrev pub number_in : Result Size Refusal → Result ℕ Refusal
number_in (Ok s) = Ok s.n
number_in (Err e) = Err e
