-- What is left of an objective once some frames are added. Assumes nothing.
use Rattle.std.proofs.Common.{◌≡◌, ℕ, ◌+◌, ◌-◌, ◌*◌, ◌≤◌, min, List, [], ◌∷◌, ◌++◌, sym, ap, ◌∙◌, arith}
use native.Mathlib.Nat.{mul-sub}
use Rattle.std.proofs.lemmas.List.{append-nil, append_assoc}
use Rattle.theory.specs.Laws.{Submodular, Lawful}
use Rattle.theory.proofs.Later.{front, grows}
use Rattle.kinds.specs.Objectives.{Bounded, capped, joint, residual, tell}
use Rattle.kinds.proofs.Lawful.{plus_lawful, min_lawful}

module _ {A : Type 0} {f : List A → ℕ} (w : Submodular f) where
  value_front : (a : List A) (x : A) (s : List A) → f (a ++ (x ∷ s)) ≡ f (x ∷ (a ++ s))
  value_front = front f w.order

  pub residual_lawful : (a : List A) → Submodular (residual f a)
  residual_lawful a = record {
    nothing = omega (arith, ap f (append-nil a));
    order = λ p x y s. ap (λ n. n - f a) (ap f (sym (append_assoc a p (x ∷ y ∷ s))) ∙ w.order (a ++ p) x y s ∙ ap f (append_assoc a p (y ∷ x ∷ s)));
    more = λ x s. omega (arith, w.more x (a ++ s), value_front a x s);
    falls = λ x y s. omega (
      arith,
      w.falls x y (a ++ s),
      value_front a x (y ∷ s) ∙ front (λ t. f (x ∷ t)) (λ p. w.order (x ∷ p)) a y s,
      value_front a x s,
      value_front a y s,
      grows w a s,
      w.more x (a ++ s),
      w.more y (a ++ s),
    );
  }

  -- x added to what a left leaves what a with x leaves
  pub told-residual : (a : List A) (x : A) (s : List A) → tell (residual f a) x s ≡ residual f (x ∷ a) s
  told-residual a x s = omega (arith, value_front a x s, value_front a x [], ap (λ t. f (x ∷ t)) (append-nil a), grows w (x ∷ a) s, w.more x a)

pub residual_small : {A : Type 0} (f : List A → ℕ) → Bounded f → (a : List A) → Bounded (residual f a)
residual_small f h a s = omega (arith, h (a ++ s))

-- what a product, a sum and a cap leave once x is added
module _ {A : Type 0} (x : A) (s : List A) where
  pub told_times : (c : ℕ) (f : List A → ℕ) → tell (λ t. c * f t) x s ≡ c * tell f x s
  told_times c f = sym (mul-sub c (f (x ∷ s)) (f (x ∷ [])))

  pub told_plus : {f g : List A → ℕ} → Submodular f → Submodular g → tell (λ t. f t + g t) x s ≡ tell f x s + tell g x s
  told_plus w v = omega (arith, grows w (x ∷ []) s, grows v (x ∷ []) s)

  -- the value of x is taken from the cap too
  pub told-capped : (room : ℕ) (f : List A → ℕ) → tell (capped room f) x s ≡ capped (room - capped room f (x ∷ [])) (tell f x) s
  told-capped room f = omega arith

  -- two under one cap were f and f' and are g and g', now that x is added and took n of the room
  pub joint_added : (room n : ℕ) {f f' : List A → ℕ} (g g' : List A → ℕ) → Submodular f → Submodular f' → n ≡ joint room f f' (x ∷ []) → g s ≡ tell f x s → g' s ≡ tell f' x s → joint (room - n) g g' s ≡ tell (joint room f f') x s
  joint_added room n {f} {f'} g g' w v took e e' = ap (λ m. joint (room - m) g g' s) took ∙ ap (min (room - joint room f f' (x ∷ []))) (omega (arith, e, e', told_plus w v)) ∙ sym (told-capped room (λ t. f t + f' t))

  -- so a capped residual stays a capped residual
  pub told_room : (room : ℕ) {f : List A → ℕ} → Submodular f → (a : List A) → tell (capped room (residual f a)) x s ≡ capped (room - capped room (residual f a) (x ∷ [])) (residual f (x ∷ a)) s
  told_room room {f} w a = told-capped room (residual f a) ∙ ap (min (room - capped room (residual f a) (x ∷ []))) (told-residual w a x s)

-- a cap over what is lawful, and the sum of two under a cap, are lawful
module _ {A : Type 0} where
  pub capped_keeps : (c : ℕ) {f : List A → ℕ} → Lawful f → Lawful (capped c f)
  capped_keeps c w = record { submodular = min_lawful w.submodular c; bounded = λ s. omega (arith, w.bounded s) }

  pub joint_keeps : (m : ℕ) {f g : List A → ℕ} → m ≤ 4294967295 → Lawful f → Lawful g → Lawful (joint m f g)
  joint_keeps m h w v = record { submodular = min_lawful (plus_lawful w.submodular v.submodular) m; bounded = λ s. omega arith }
