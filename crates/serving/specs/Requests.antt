-- The calls that bytes are, one after another. Assumes nothing.
use Rattle.std.specs.Prelude.{◌≡◌, ℕ, List, drop, Some, None, Option}
use Rattle.encoding.specs.Reading.{Reads}
use Rattle.encoding.specs.declared.request.Request.{Request}

-- the bytes s begin with the call x, and t is what is behind it; where they begin with none, t is s
abbrev pub NextCall : List ℕ → Option Request → List ℕ → Type 0
NextCall s None t = Reads s None × (t ≡ s)
NextCall s (Some x) t = Reads s (Some x) × (t ≡ drop x.length s)
