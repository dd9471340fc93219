-- What is asked of the value of a bag of frames, and of which bags are independent. Assumes nothing.
use Rattle.std.specs.Prelude.{◌≡◌, ℕ, ◌+◌, ◌<◌, ◌≤◌, Bool, true, List, [], ◌∷◌, length}
use Rattle.theory.specs.Bag.{count, Orderless}

-- nothing has the value 0; one element more never lowers the value; what an element adds never grows with the bag
pub record Submodular {A : Type 0} (f : List A → ℕ) : Type 0 where
  pub nothing : f [] ≡ 0
  pub order : Orderless f
  pub more : (x : A) (s : List A) → f s ≤ f (x ∷ s)
  pub falls : (x y : A) (s : List A) → f (x ∷ y ∷ s) + f s ≤ f (x ∷ s) + f (y ∷ s)

-- the laws of an objective: submodular, and no value needs more than 32 bits
pub record Lawful {A : Type 0} (f : List A → ℕ) : Type 0 where
  pub submodular : Submodular f
  pub bounded : (s : List A) → f s ≤ 4294967295

-- the laws of a matroid: the empty bag is independent, order makes no difference, a part of an independent bag is
-- independent, and of two independent bags the larger has an element, more often than the smaller, to add to it
pub record MatroidLaws {A : Type 0} (same : A → A → Bool) (adm : List A → Bool) : Type 0 where
  pub nothing : adm [] ≡ true
  pub order : Orderless adm
  pub fewer : (x : A) (s : List A) → adm (x ∷ s) ≡ true → adm s ≡ true
  pub exchange : (s t : List A) → adm s ≡ true → adm t ≡ true → length s < length t → (x : A) × (count same x s < count same x t) × (adm (x ∷ s) ≡ true)
