-- What is promised of frames that join two stations. Assumes nothing.
use Rattle.std.specs.Prelude.{◌≡◌, ℕ, Bool, List, Decides}
use Rattle.std.specs.List.{range_with_len}
use Rattle.theory.specs.Bag.{Same}
use Rattle.theory.specs.Laws.{MatroidLaws}
use Rattle.cycles.specs.Graphs.{graphic, NoEvenPart}
use Rattle.cycles.specs.Labels.{joins_by}

pub record Graphic {A : Type 0} (same : A → A → Bool) (tail head : A → ℕ) : Type 0 where
  -- the test says what it should
  pub right : (s : List A) → Decides (graphic tail head s) (NoEvenPart tail head s)
  pub laws : MatroidLaws same (graphic tail head)
  -- labels give the same answer, from a list that has each station for its own label
  pub labels : (n : ℕ) (s : List A) → joins_by tail head (range_with_len 0 n) s ≡ graphic tail head s

abbrev pub GraphicStands : Type 0 → Type 0
GraphicStands A = (same : A → A → Bool) (tail head : A → ℕ) → Same same → Graphic same tail head
