-- Ways to show the laws: what does not go by the order, and what occurs more often. Assumes nothing.
use Rattle.std.proofs.Common.{◌≡◌, ℕ, suc, ◌<◌, ◌≤◌, Bool, true, false, cond, List, [], ◌∷◌, ◌++◌, length, sum_by, count_by, sym, refl, ap, ◌∙◌, ⊎_elim, arith}
use Rattle.std.specs.List.Sorted.{IsPermutation}
use Rattle.std.proofs.lemmas.List.Sorted.{IsPermutation-cons, IsPermutation-swap, sum_by-IsPermutation}
use Rattle.std.proofs.lemmas.List.Sums.{sum_by-append, sum_by-cons}
use Rattle.std.proofs.lemmas.Bool.{cases_lt}
use Rattle.std.specs.Set.{remove_key}
use Rattle.theory.specs.Bag.{Same, count, Orderless}
use Rattle.theory.proofs.Bags.{Alike, count_cons, count_without, to_front}

-- a function of something that does not go by the order
pub orderless_after : {A B C : Type 0} (g : B → C) (h : List A → B) → Orderless h → Orderless (λ s. g (h s))
orderless_after g h o p x y s = ap g (o p x y s)

-- a fold whose steps may change places
pub orderless_fold : {A B : Type 0} (h : List A → B) (op : A → B → B) → ((x : A) (s : List A) → h (x ∷ s) ≡ op x (h s)) → ((x y : A) (b : B) → op x (op y b) ≡ op y (op x b)) → Orderless h
orderless_fold h op is past [] x y s = is x (y ∷ s) ∙ ap (op x) (is y s) ∙ past x y (h s) ∙ ap (op y) (sym (is x s)) ∙ sym (is y (x ∷ s))
orderless_fold h op is past (z ∷ p) x y s = is z (p ++ (x ∷ y ∷ s)) ∙ ap (op z) (orderless_fold h op is past p x y s) ∙ sym (is z (p ++ (y ∷ x ∷ s)))

pub orderless_sum_by : {A : Type 0} (v : A → ℕ) → Orderless (sum_by v)
orderless_sum_by v p x y s = omega (arith, sum_by-append v p (x ∷ y ∷ s), sum_by-append v p (y ∷ x ∷ s), sum_by-cons v x (y ∷ s), sum_by-cons v y s, sum_by-cons v y (x ∷ s), sum_by-cons v x s)

-- for laws of one's own: what no permutation changes does not go by the order, and permutations are alike
shuffled_next : {A : Type 0} (p : List A) (x y : A) (s : List A) → IsPermutation (p ++ (x ∷ y ∷ s)) (p ++ (y ∷ x ∷ s))
shuffled_next [] x y s = IsPermutation-swap (x ∷ y ∷ s) (y ∷ x ∷ s) 0 1 (omega arith) (omega arith) refl
shuffled_next (z ∷ p) x y s = IsPermutation-cons z (p ++ (x ∷ y ∷ s)) (p ++ (y ∷ x ∷ s)) (shuffled_next p x y s)

pub orderless_from_shuffled : {A B : Type 0} (h : List A → B) → ((s t : List A) → IsPermutation s t → h s ≡ h t) → Orderless h
orderless_from_shuffled h inv p x y s = inv (p ++ (x ∷ y ∷ s)) (p ++ (y ∷ x ∷ s)) (shuffled_next p x y s)

pub alike_from_shuffled : {A : Type 0} (same : A → A → Bool) (s t : List A) → IsPermutation s t → Alike same s t
alike_from_shuffled same s t h z = sym (sum_by-IsPermutation (λ y. cond (same z y) 1 0) s t h)

pub orderless_length : {A : Type 0} → Orderless (length {A = A})
orderless_length {A} = orderless_fold (length {A = A}) (λ x b. suc b) (λ x s. refl) (λ x y b. refl)

module _ {A : Type 0} {same : A → A → Bool} (eq : Same same) (p : A → Bool) where
  -- of those that pass p, t has more: then one of them occurs more often in t
  pub occurs_more : (t s : List A) → count_by p s < count_by p t → (x : A) × (p x ≡ true) × (count same x s < count same x t)
  occurs_more [] s h = absurd (omega arith)
  occurs_more (y ∷ t) s h =
      ⊎_elim (λ few. go_few few (p y) refl (λ k. occurs_more t s k)) (λ has. go_has has (λ k. occurs_more t (remove_key (same y) s) k)) (cases_lt (count same y s) (count same y (y ∷ t)))
    where
      go_few : count same y s < count same y (y ∷ t) → (b : Bool) → p y ≡ b → (count_by p s < count_by p t → (x : A) × (p x ≡ true) × (count same x s < count same x t)) → (x : A) × (p x ≡ true) × (count same x s < count same x (y ∷ t))
      go_few few true e ih = (y, e, few)
      go_few few false e ih =
          let none : ◌≡◌ {A = ℕ} (cond (p y) 1 0) 0 = ap (λ b. cond b 1 0) e in
          let got = ih (omega (arith, h, sum_by-cons (λ x. cond (p x) 1 0) y t)) in
          (got.0, got.1, omega (arith, count_cons, got.2))

      go_has : count same y (y ∷ t) ≤ count same y s → (count_by p (remove_key (same y) s) < count_by p t → (x : A) × (p x ≡ true) × (count same x (remove_key (same y) s) < count same x t)) → (x : A) × (p x ≡ true) × (count same x s < count same x (y ∷ t))
      go_has le ih =
          let self : ◌≡◌ {A = ℕ} (cond (same y y) 1 0) 1 = ap (λ b. cond b 1 0) (eq.self y) in
          let has : 0 < count same y s = omega (arith, count_cons, le) in
          let front = to_front eq (sum_by (λ x. cond (p x) 1 0)) (orderless_sum_by (λ x. cond (p x) 1 0)) y s has in
          let got = ih (omega (arith, h, front, sum_by-cons (λ x. cond (p x) 1 0) y (remove_key (same y) s), sum_by-cons (λ x. cond (p x) 1 0) y t)) in
          (got.0, got.1, omega (arith, count_cons, got.2, count_without eq got.0 y s has))

-- every element passes the test that each one passes
pub count_by_all : {A : Type 0} (s : List A) → count_by (λ x. true) s ≡ length s
count_by_all [] = refl
count_by_all {A} (x ∷ s) = omega (arith, count_by_all s, sum_by-cons (λ (y : A). cond true 1 0) x s)

-- the longer list has an element more often
pub longer_has_more : {A : Type 0} {same : A → A → Bool} → Same same → (s t : List A) → length s < length t → (x : A) × (count same x s < count same x t)
longer_has_more eq s t l = let got = occurs_more eq (λ x. true) t s (omega (arith, count_by_all s, count_by_all t)) in (got.0, got.2)
