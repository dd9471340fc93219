-- Calls as bytes. Assumes nothing.
use Rattle.std.specs.Prelude.{◌≡◌, ℕ, ◌^◌, ◌<◌, List, [], ◌∷◌, ◌++◌, length}
use Rattle.std.specs.List.{flat_map, AllByRecursion}
use Rattle.frames.specs.declared.frame.Frame.{Frame}
use Rattle.picker.specs.Calls.{Called, offering, reading, looking, counting, printing, clearing}
use Rattle.encoding.specs.Words.{word4, word8}

-- a call, with what it was given: a print-out has room for so many bytes
pub data Requested : Type 0 where
  offer : Frame → Requested
  text : List ℕ → Requested
  look_up : ℕ → Requested
  counts : Requested
  print_out : ℕ → Requested
  clear : Requested

-- the call as one of a history
abbrev pub called_of : Requested → Called
called_of (offer x) = offering x
called_of (text t) = reading t
called_of (look_up i) = looking i
called_of counts = counting
called_of (print_out n) = printing
called_of clear = clearing

-- the bytes of the caller's buffer that a print-out may take
abbrev pub room_of : Requested → ℕ
room_of (offer x) = 0
room_of (text t) = 0
room_of (look_up i) = 0
room_of counts = 0
room_of (print_out n) = n
room_of clear = 0

abbrev pub frame_bytes : Frame → List ℕ
frame_bytes x = word4 x.number ++ (word8 x.marks ++ (x.look ∷ x.lane ∷ x.tail ∷ x.head ∷ x.side ∷ []))

-- a byte that says which call, then what it takes
abbrev pub bytes_of : Requested → List ℕ
bytes_of (offer x) = 1 ∷ frame_bytes x
bytes_of (text t) = 2 ∷ (word4 (length t) ++ t)
bytes_of (look_up i) = 3 ∷ word4 i
bytes_of counts = 4 ∷ []
bytes_of (print_out n) = 5 ∷ word4 n
bytes_of clear = 6 ∷ []

-- a frame's numbers have the bits that their types give them
pub record FrameFits (x : Frame) : Type 0 where
  pub number : x.number < 2 ^ 32
  pub marks : x.marks < 2 ^ 64
  pub look : x.look < 256
  pub lane : x.lane < 256
  pub tail : x.tail < 256
  pub head : x.head < 256
  pub side : x.side < 256

-- a number of four bytes is below 2 ^ 32
abbrev pub Fits : Requested → Type 0
Fits (offer x) = FrameFits x
Fits (text t) = length t < 2 ^ 32
Fits (look_up i) = i < 2 ^ 32
Fits counts = Unit {0}
Fits (print_out n) = n < 2 ^ 32
Fits clear = Unit {0}

-- the bytes are those of the calls, one after the other
pub record Encodes (cs : List Requested) (bytes : List ℕ) : Type 0 where
  pub joins : flat_map bytes_of cs ≡ bytes
  pub fit : AllByRecursion Fits cs

-- bytes are those of one list of calls at most
abbrev pub OneReading : Type 0
OneReading = (bytes : List ℕ) (cs ds : List Requested) → Encodes cs bytes → Encodes ds bytes → cs ≡ ds
