-- How bytes read as the call that they begin with. Assumes nothing.
use Rattle.std.specs.Prelude.{◌≡◌, ℕ, ◌^◌, ◌<◌, List, ◌++◌, length as len, drop, Some, None, Option, ◌≢◌}
use Rattle.frames.specs.declared.frame.Frame.{Frame}
use Rattle.runs.specs.Runs.{called}
use Rattle.encoding.specs.declared.request.Request.{Request}
use Rattle.encoding.specs.Words.{word4}
use Rattle.encoding.specs.Requests.{Requested, called_of, room_of, frame_bytes, bytes_of, FrameFits, Fits}

-- the bytes s begin with the call q, which x is, and with no other
pub record Head (s : List ℕ) (x : Request) (q : Requested) : Type 0 where
  pub call : called x.call ≡ called_of q
  pub length : x.length ≡ len (bytes_of q)
  pub room : x.room ≡ room_of q
  pub fits : Fits q
  pub back : s ≡ bytes_of q ++ drop x.length s
  pub only : (p : Requested) (rest : List ℕ) → Fits p → s ≡ bytes_of p ++ rest → (p ≡ q) × (rest ≡ drop x.length s)

-- x is the call that the bytes s begin with; where there is none, they begin with no call
abbrev pub Reads : List ℕ → Option Request → Type 0
Reads s None = (p : Requested) (rest : List ℕ) → Fits p → s ≢ bytes_of p ++ rest
Reads s (Some x) = (q : Requested) × Head s x q

-- the bytes s begin with those of the value that there is, which fits; where there is none, with those of no value
abbrev pub Begins : {A : Type 0} → (A → Type 0) → (A → List ℕ) → List ℕ → Option A → Type 0
Begins {A} fits bytes s None = (x : A) (rest : List ℕ) → fits x → s ≢ bytes x ++ rest
Begins {A} fits bytes s (Some x) = (rest : List ℕ) × fits x × (s ≡ bytes x ++ rest)

-- a number of four bytes
abbrev pub Word : List ℕ → Option ℕ → Type 0
Word s o = Begins (λ n. n < 2 ^ 32) word4 s o

-- a frame
abbrev pub Framed : List ℕ → Option Frame → Type 0
Framed s o = Begins FrameFits frame_bytes s o

-- a text behind its length
abbrev pub Texted : List ℕ → Option (List ℕ) → Type 0
Texted s o = Begins (λ t. len t < 2 ^ 32) (λ t. word4 (len t) ++ t) s o
