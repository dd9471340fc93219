-- Whole runs: what is returned, and what the answers' buffer holds then. Assumes nothing.
use Rattle.std.specs.Prelude.{◌≡◌, ℕ, ◌+◌, min, Bool, if◌then◌else◌, List, [], ◌∷◌, ◌++◌, length, take, drop, Some, None, Ok, Err, Option, Result, nat_le}
use Rattle.frames.specs.declared.frame.Frame.{Frame}
use Rattle.picker.specs.Calls.{Called}
use Rattle.runs.specs.Runs.{answer_after, sheet_after}
use Rattle.encoding.specs.Answers.{answer_bytes, fixed_of}
use Rattle.encoding.specs.Requests.{Requested, called_of, room_of, Encodes}
use Rattle.serving.specs.declared.refusal.RunRefusal.{RunRefusal}
use Rattle.serving.specs.declared.refusal.RunRefusal.TheVariants.{BadCalls, ShortAnswers}

-- how many bytes the answer to a call takes
abbrev pub due_of : Requested → ℕ
due_of q = fixed_of (called_of q) + room_of q

abbrev pub due_all : List Requested → ℕ
due_all [] = 0
due_all (q ∷ qs) = due_of q + due_all qs

-- the calls that the bytes are; none where they are no calls
abbrev pub Decodes : List ℕ → Option (List Requested) → Type 0
Decodes bytes None = (cs : List Requested) → Encodes cs bytes → ⊥
Decodes bytes (Some cs) = Encodes cs bytes

-- how many bytes the answers take, if the bytes are calls
abbrev pub Due : List ℕ → Option ℕ → Type 0
Due bytes None = Decodes bytes None
Due bytes (Some due) = (cs : List Requested) × Encodes cs bytes × (due ≡ due_all cs)

module _ (f : List Frame → ℕ) (adm : List Frame → Bool) (n : ℕ) where
  -- what answers a call after the calls h, in the place of the bytes w: a print-out stands behind the answer's own bytes
  unfoldable pub answered : List Called → Called → List ℕ → List ℕ
  answered h c w = answer_bytes (answer_after f adm n h (drop (fixed_of c) w) c) ++ sheet_after f adm n h (drop (fixed_of c) w) c

  -- the answers to the calls, after the calls h, one behind the other at the front of a buffer that held s
  abbrev pub answered_all : List Called → List Requested → List ℕ → List ℕ
  answered_all h [] s = s
  answered_all h (q ∷ qs) s = answered h (called_of q) (take (due_of q) s) ++ answered_all (h ++ called_of q ∷ []) qs (drop (due_of q) s)

  -- what a run of the calls returns, and leaves of a buffer that held s: it is refused for bytes that are no calls, and
  -- for a buffer shorter than the answers due, or for answers of 2 ^ 48 bytes or more
  unfoldable pub ran_of : Option (List Requested) → List ℕ → Result ℕ RunRefusal × List ℕ
  ran_of None s = (Err BadCalls, s)
  ran_of (Some cs) s = if nat_le (due_all cs) (min (length s) 281474976710655) then (Ok (due_all cs), answered_all [] cs s) else (Err ShortAnswers, s)

  -- a run of the calls that the bytes are returned r, and left `after` of a buffer that held `before`
  pub record Served (bytes before : List ℕ) (r : Result ℕ RunRefusal) (after : List ℕ) : Type 0 where
    pub calls : Option (List Requested)
    pub decodes : Decodes bytes calls
    pub ran : (r, after) ≡ ran_of calls before
