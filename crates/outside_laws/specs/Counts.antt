-- Frames that count one each: what a list of them is worth, and which lists are short enough. Assumes nothing.
use Rattle.std.specs.Prelude.{◌≡◌, ℕ, ◌-◌, ◌≤◌, min, Bool, List, [], ◌∷◌, length, nat_le}
use Rattle.theory.specs.Bag.{Same}
use Rattle.theory.specs.Laws.{Lawful, MatroidLaws}
use Rattle.theory.specs.Replay.{replay}

-- each frame is worth 1, up to the cap
abbrev pub count_up_to : {A : Type 0} → ℕ → List A → ℕ
count_up_to cap s = min cap (length s)

-- at most so many frames
abbrev pub uniform : {A : Type 0} → ℕ → List A → Bool
uniform most s = nat_le (length s) most

pub record CountsStand (A : Type 0) : Type 0 where
  pub counts : (cap : ℕ) → cap ≤ 4294967295 → Lawful (count_up_to {A = A} cap)
  -- a further frame takes one off what is left
  pub adds : (left : ℕ) (x : A) (s : List A) → count_up_to (left - 1) s ≡ count_up_to left (x ∷ s) - count_up_to left (x ∷ [])
  pub exchanges : (same : A → A → Bool) → Same same → (most : ℕ) → MatroidLaws same (uniform most)
  -- as many frames are accepted as the cap, the limit, the size and the arrivals allow
  pub takes : (cap most n : ℕ) (xs : List A) → length (replay (count_up_to cap) (uniform most) n xs).accepted ≡ min (min cap most) (min n (length xs))
