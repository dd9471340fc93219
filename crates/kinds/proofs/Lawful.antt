-- Ways to make one submodular function of others. Assumes nothing.
use Rattle.std.proofs.Common.{◌≡◌, ℕ, suc, ◌+◌, ◌*◌, ◌≤◌, min, max, Bool, true, false, cond, ◌||◌, List, [], ◌∷◌, sum_by, count_by, sym, refl, ap, ◌∙◌, subst, mul-le-mul_left, mul-add, arith, if◌then◌else◌}
use mathlib.Core.Path.{fun_ext}
use Rattle.std.specs.List.{list_any, AllByRecursion}
use Rattle.std.proofs.lemmas.List.Sums.{sum_by-cons}
use Rattle.theory.specs.Laws.{Submodular}
use Rattle.theory.proofs.Orders.{orderless_after, orderless_fold, orderless_sum_by}
use Rattle.kinds.specs.Objectives.{greatest}
use Rattle.kinds.proofs.Counts.{next, count_next}

pub lawful_same : {A : Type 0} {f g : List A → ℕ} → ((s : List A) → f s ≡ g s) → Submodular f → Submodular g
lawful_same e w = subst Submodular (fun_ext e) w

module _ {A : Type 0} {f g : List A → ℕ} (w : Submodular f) (v : Submodular g) where
  pub plus_lawful : Submodular (λ s. f s + g s)
  plus_lawful = record {
    nothing = omega (arith, w.nothing, v.nothing);
    order = λ p x y s. omega (arith, w.order p x y s, v.order p x y s);
    more = λ x s. omega (arith, w.more x s, v.more x s);
    falls = λ x y s. omega (arith, w.falls x y s, v.falls x y s);
  }

module _ {A : Type 0} {f : List A → ℕ} (w : Submodular f) (c : ℕ) where
  pub times_lawful : Submodular (λ s. c * f s)
  times_lawful = record {
    nothing = omega (arith, ap (λ n. c * n) w.nothing);
    order = orderless_after (λ n. c * n) f w.order;
    more = λ x s. mul-le-mul_left c (w.more x s);
    falls = λ x y s. omega (arith, mul-le-mul_left c (w.falls x y s), mul-add c (f (x ∷ y ∷ s)) (f s), mul-add c (f (x ∷ s)) (f (y ∷ s)));
  }

  pub min_lawful : Submodular (λ s. min c (f s))
  min_lawful = record {
    nothing = omega (arith, w.nothing);
    order = orderless_after (min c) f w.order;
    more = λ x s. omega (arith, w.more x s);
    falls = λ x y s. omega (arith, w.falls x y s, w.more x (y ∷ s), w.more y (x ∷ s), w.order [] x y s, w.more x s, w.more y s);
  }

-- a sum over indices
pub sum_lawful : {A I : Type 0} (f : I → List A → ℕ) (is : List I) → AllByRecursion (λ i. Submodular (f i)) is → Submodular (λ s. sum_by (λ i. f i s) is)
sum_lawful f [] h = record { nothing = refl; order = λ p x y s. refl; more = λ x s. omega arith; falls = λ x y s. omega arith }
sum_lawful f (i ∷ is) h = lawful_same (λ s. sym (sum_by-cons (λ j. f j s) i is)) (plus_lawful h.0 (sum_lawful f is h.1))

-- the greatest of a number of each frame
pub greatest_lawful : {A : Type 0} (v : A → ℕ) → Submodular (greatest v)
greatest_lawful v = record {
  nothing = refl;
  order = orderless_fold (greatest v) (λ x n. max (v x) n) (λ x s. refl) (λ x y n. omega arith);
  more = λ x s. omega arith;
  falls = λ x y s. omega arith;
}

greatest_any : {A : Type 0} (p : A → Bool) (w : ℕ) (s : List A) → greatest (λ x. if p x then w else 0) s ≡ (if list_any p s then w else 0)
greatest_any p w [] = refl
greatest_any p w (x ∷ s) = go (p x) (list_any p s) (greatest_any p w s)
  where
    go : (a b : Bool) {m : ℕ} → m ≡ (if b then w else 0) → max (if a then w else 0) m ≡ (if a || b then w else 0)
    go true true e = omega arith
    go true false e = omega arith
    go false true e = omega arith
    go false false e = omega arith

-- w, once some frame passes p
pub any_lawful : {A : Type 0} (p : A → Bool) (w : ℕ) → Submodular (λ s. if list_any p s then w else 0)
any_lawful p w = lawful_same (greatest_any p w) (greatest_lawful (λ x. cond (p x) w 0))

-- g rises from 0, by less and less
pub record Concave (g : ℕ → ℕ) : Type 0 where
  pub starts : g 0 ≡ 0
  pub rises : (n : ℕ) → g n ≤ g (suc n)
  pub slows : (n : ℕ) → g (suc (suc n)) + g n ≤ g (suc n) + g (suc n)

module _ {g : ℕ → ℕ} (k : Concave g) where
  next_rises : (b : Bool) (n : ℕ) → g n ≤ g (next b n)
  next_rises true n = k.rises n
  next_rises false n = omega arith

  next_slows : (a b : Bool) (n : ℕ) → g (next a (next b n)) + g n ≤ g (next a n) + g (next b n)
  next_slows true true n = k.slows n
  next_slows true false n = omega arith
  next_slows false true n = omega arith
  next_slows false false n = omega arith

  -- a concave function of how many pass p
  pub count_lawful : {A : Type 0} (p : A → Bool) → Submodular (λ s. g (count_by p s))
  count_lawful p = record {
    nothing = k.starts;
    order = orderless_after g (count_by p) (orderless_sum_by (λ x. cond (p x) 1 0));
    more = λ x s. omega (arith, next_rises (p x) (count_by p s), ap g (count_next p x s));
    falls = λ x y s. omega (arith, next_slows (p x) (p y) (count_by p s), ap g (count_next p x (y ∷ s) ∙ ap (next (p x)) (count_next p y s)), ap g (count_next p x s), ap g (count_next p y s));
  }
