-- Lists as bags: how often an element occurs, and lists of distinct places. Assumes nothing.
use Rattle.std.specs.Prelude.{◌≡◌, ℕ, ◌≤◌, Bool, true, ◌≢◌, List, [], ◌∷◌, ◌++◌, map, length, Some, count_by}
use Rattle.std.specs.List.{AllByRecursion, slice_get}

-- `same` tells equal elements from others
pub record Same {A : Type 0} (same : A → A → Bool) : Type 0 where
  pub tells : (x y : A) → same x y ≡ true → x ≡ y
  pub self : (x : A) → same x x ≡ true

-- how often x occurs
abbrev pub count : {A : Type 0} → (A → A → Bool) → A → List A → ℕ
count same x s = count_by (same x) s

-- two neighbours may change places
abbrev pub Orderless : {A B : Type 0} → (List A → B) → Type 0
Orderless {A} h = (p : List A) (x y : A) (s : List A) → h (p ++ (x ∷ y ∷ s)) ≡ h (p ++ (y ∷ x ∷ s))

-- no place twice; not std's IsDistinct, which asks a test and must be unfolded where two places are told apart
abbrev pub Distinct : List ℕ → Type 0
Distinct [] = Unit {0}
Distinct (p ∷ ps) = AllByRecursion (λ q. q ≢ p) ps × Distinct ps

-- at the places ps, which are distinct, the arrivals have the elements of s
abbrev pub Drawn : {A : Type 0} → List A → List ℕ → List A → Type 0
Drawn arrivals ps s = Distinct ps × (map (slice_get arrivals) ps ≡ map Some s)

-- c is a choice of at most n different places of the arrivals
pub record Choice {A : Type 0} (arrivals : List A) (n : ℕ) (c : List A) : Type 0 where
  pub places : List ℕ
  pub drawn : Drawn arrivals places c
  pub few : length places ≤ n
