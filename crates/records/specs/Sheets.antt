-- A print-out into a caller's buffer. Assumes nothing.
use Rattle.std.specs.Prelude.{◌≡◌, ℕ, List, ◌++◌, length, drop, Ok, Err, MatchBool, Result, nat_le}
use Rattle.frames.specs.declared.refusal.Refusal.{Refusal}
use Rattle.frames.specs.declared.refusal.Refusal.TheVariants.{ShortSheet}

-- t at the front of a buffer that held `sheet`; the bytes behind it are kept
abbrev pub over : List ℕ → List ℕ → List ℕ
over t sheet = t ++ drop (length t) sheet

-- r answers a print-out of t into a buffer that held `before` and holds `after` now: the length of t, or a refusal that
-- changed nothing, where the buffer is shorter than t
abbrev pub Printed : List ℕ → List ℕ → List ℕ → Result ℕ Refusal → Type 0
Printed t before after r =
    MatchBool (nat_le (length t) (length before)) ((r ≡ Ok (length t)) × (after ≡ over t before)) ((r ≡ Err ShortSheet) × (after ≡ before))
