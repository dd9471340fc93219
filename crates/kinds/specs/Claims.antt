-- What each kind promises. Assumes nothing.
use Rattle.std.specs.Prelude.{◌≡◌, ℕ, ◌+◌, ◌-◌, ◌*◌, ◌<◌, ◌≤◌, Bool, ◌&&◌, List, [], ◌∷◌, slice_index}
use Rattle.std.specs.List.{AllByRecursion}
use Rattle.theory.specs.Bag.{Same}
use Rattle.theory.specs.Laws.{Submodular, Lawful, MatroidLaws}
use Rattle.kinds.specs.Objectives.{coverage, facility, steps_of, concave, capped, joint, residual, tell}
use Rattle.kinds.specs.Matroids.{few, Splits, partition, laminar, Parents, truncated, direct_sum}

pub record ObjectivesStand (A : Type 0) : Type 0 where
  pub covers : (marks : A → ℕ) (weights : List ℕ) → AllByRecursion (λ w. w ≤ 67108863) weights → Lawful (coverage marks weights)
  pub likens : (look : A → ℕ) (table : List ℕ) → Lawful (facility look table)
  -- the steps of a lane never rise
  pub climbs : (lane : A → ℕ) (steps : List ℕ) → AllByRecursion (λ n. n ≤ 8388607) steps → ((l j : ℕ) → l < 64 → j < 7 → slice_index steps (8 * l + j + 1) ≤ slice_index steps (8 * l + j)) → Lawful (concave lane (steps_of steps))
  pub caps : (c : ℕ) (f : List A → ℕ) → c ≤ 4294967295 → Submodular f → Lawful (capped c f)
  pub joins : (m : ℕ) (f g : List A → ℕ) → m ≤ 4294967295 → Submodular f → Submodular g → Lawful (joint m f g)
  pub leaves : (f : List A → ℕ) (a : List A) → Lawful f → Lawful (residual f a)
  pub tells : (f : List A → ℕ) → Submodular f → (a : List A) (x : A) (s : List A) → tell (residual f a) x s ≡ residual f (x ∷ a) s
  pub fills : (room : ℕ) (f : List A → ℕ) (x : A) (s : List A) → tell (capped room f) x s ≡ capped (room - capped room f (x ∷ [])) (tell f x) s

pub record Kinds {A : Type 0} (same : A → A → Bool) : Type 0 where
  pub boxed : (p : A → Bool) (c : ℕ) (adm : List A → Bool) → MatroidLaws same adm → Splits p adm → MatroidLaws same (λ s. adm s && few p c s)
  pub lanes : (lane : A → ℕ) (caps : List ℕ) → MatroidLaws same (partition lane caps)
  pub nested : (lane : A → ℕ) (parents caps : List ℕ) → Parents parents → MatroidLaws same (laminar lane parents caps)
  pub shortened : (k : ℕ) (adm : List A → Bool) → MatroidLaws same adm → MatroidLaws same (truncated adm k)
  pub sided : (side : A → ℕ) (adm other : List A → Bool) → MatroidLaws same adm → MatroidLaws same other → MatroidLaws same (direct_sum side adm other)

abbrev pub MatroidsStand : Type 0 → Type 0
MatroidsStand A = (same : A → A → Bool) → Same same → Kinds same
