-- What an exported call comes to, by its number alone. Assumes nothing.
use Rattle.std.specs.Prelude.{◌≡◌, ◌≢◌, ℕ, ◌*◌, ◌%◌, Bool, List, [], Option}
use Rattle.frames.specs.declared.frame.Frame.{Frame}
use Rattle.encoding.specs.Requests.{Requested, Encodes}
use Rattle.serving.specs.Promise.{Promises}
use Rattle.serving.specs.Serving.{due_all, answered_all}
use Rattle.exports.specs.declared.fault.ArgumentFault.{ArgumentFault}
use Rattle.exports.specs.Piles.{Exported}

-- a call returned r, and left `after` of a buffer that held `before`
pub record Plain (f : List Frame → ℕ) (adm : List Frame → Bool) (n : ℕ) (bytes before : List ℕ) (r : ℕ) (after : List ℕ) : Type 0 where
  -- a number whose 16 low bits are not all 0 is a refusal, and leaves the buffer as it was
  pub refused : r % 65536 ≢ 0 → after ≡ before
  -- any other is 65,536 times the bytes of the answers to the calls that the bytes are, and the buffer holds these answers
  pub served : r % 65536 ≡ 0 → (cs : List Requested) × Encodes cs bytes × (r ≡ 65536 * due_all cs) × (after ≡ answered_all f adm n [] cs before)
  pub promise : r % 65536 ≡ 0 → Promises f adm n

abbrev pub ExportedStands : Type 0
ExportedStands =
    (o : Option ArgumentFault) (f : List Frame → ℕ) (adm : List Frame → Bool) (n : ℕ) (bytes before : List ℕ) (r : ℕ) (after : List ℕ) → Exported o f adm n bytes before r after → Plain f adm n bytes before r after
