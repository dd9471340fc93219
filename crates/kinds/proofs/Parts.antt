-- The frames that pass a test and the others, each independent in a matroid of its own. Assumes nothing.
use Rattle.std.proofs.Common.{◌≡◌, ℕ, ◌<◌, Bool, true, false, cond, not, ◌&&◌, eqb, List, [], ◌∷◌, ◌++◌, length, filter, sym, refl, ap, ◌∙◌, subst, ap₂, ⊎_elim, arith, if◌then◌else◌}
use mathlib.Core.Path.{fun_ext}
use Rattle.std.proofs.lemmas.List.Elements.{filter-append}
use Rattle.std.proofs.lemmas.List.Filters.{length-filter_both, sum_by-filter_both}
use Rattle.std.proofs.lemmas.Bool.{cases_Bool, cases_lt, both_ways, and_parts, and_from, cond-true, cond-false, not-true, not_from_true}
use Rattle.theory.specs.Bag.{Same, count, Orderless}
use Rattle.theory.specs.Laws.{MatroidLaws}
use Rattle.theory.proofs.Bags.{count_cons}
use Rattle.kinds.specs.Matroids.{direct_sum}

pub matroid_same : {A : Type 0} {same : A → A → Bool} {adm other : List A → Bool} → ((s : List A) → adm s ≡ other s) → MatroidLaws same adm → MatroidLaws same other
matroid_same {A} {same} e m = subst (MatroidLaws same) (fun_ext e) m

module _ {A : Type 0} (p : A → Bool) where
  orderless_kept : {B : Type 0} (h : List A → B) → Orderless h → Orderless (λ s. h (filter p s))
  orderless_kept h o q x y s = ap h (filter-append p q (x ∷ y ∷ s)) ∙ go (p x) (p y) ∙ ap h (sym (filter-append p q (y ∷ x ∷ s)))
    where
      go : (a b : Bool) → h (filter p q ++ (if a then x ∷ (if b then y ∷ filter p s else filter p s) else if b then y ∷ filter p s else filter p s)) ≡ h (filter p q ++ (if b then y ∷ (if a then x ∷ filter p s else filter p s) else if a then x ∷ filter p s else filter p s))
      go true true = o (filter p q) x y (filter p s)
      go true false = refl
      go false true = refl
      go false false = refl

  fewer_kept : {same : A → A → Bool} {adm : List A → Bool} → MatroidLaws same adm → (x : A) (s : List A) → adm (filter p (x ∷ s)) ≡ true → adm (filter p s) ≡ true
  fewer_kept {same} {adm} m x s = go (p x)
    where
      go : (b : Bool) → adm (if b then x ∷ filter p s else filter p s) ≡ true → adm (filter p s) ≡ true
      go true h = m.fewer x (filter p s) h
      go false h = h

module _ {A : Type 0} {same : A → A → Bool} (eq : Same same) (p : A → Bool) where
  apart : (x y : A) → p x ≡ false → p y ≡ true → ◌≡◌ {A = ℕ} (if same x y then 1 else 0) 0
  apart x y e f = ⊎_elim (λ h. absurd (both_ways (p y) (sym (ap p (eq.tells x y h)) ∙ e) f)) (λ h. ap (λ a. cond a 1 0) h) (cases_Bool (same x y))

  count_out : (x : A) → p x ≡ false → (s : List A) → count same x (filter p s) ≡ 0
  count_out x e [] = refl
  count_out x e (y ∷ s) = go (p y) refl (count_out x e s)
    where
      go : (b : Bool) → p y ≡ b → count same x (filter p s) ≡ 0 → count same x (if b then y ∷ filter p s else filter p s) ≡ 0
      go true f ih = omega (arith, count_cons, apart x y e f)
      go false f ih = ih

module _ {A : Type 0} {same : A → A → Bool} (eq : Same same) (p : A → Bool) where
  count_in : (x : A) → p x ≡ true → (s : List A) → count same x (filter p s) ≡ count same x s
  count_in x e s = omega (arith, count_out eq (λ y. not (p y)) x (not_from_true (p x) e) s, sum_by-filter_both p (λ y. not (p y)) (λ y. refl) (λ y. cond (same x y) 1 0) s)

  -- of two bags the one with more that passes p has a frame that passes p and can be added to what the other has of p; the rest stays
  pub part_exchange : {adm : List A → Bool} → MatroidLaws same adm → (q : A → Bool) → ((x : A) → p x ≡ true → q x ≡ false) → (s t : List A) → adm (filter p s) ≡ true → adm (filter p t) ≡ true → length (filter p s) < length (filter p t) → (x : A) × (count same x s < count same x t) × (adm (filter p (x ∷ s)) ≡ true) × (filter q (x ∷ s) ≡ filter q s)
  part_exchange {adm} m q other s t hs ht l = let got = m.exchange (filter p s) (filter p t) hs ht l in from got.0 got.1 got.2
    where
      from : (x : A) → count same x (filter p s) < count same x (filter p t) → adm (x ∷ filter p s) ≡ true → (x : A) × (count same x s < count same x t) × (adm (filter p (x ∷ s)) ≡ true) × (filter q (x ∷ s) ≡ filter q s)
      from x c a =
          ⊎_elim
          (λ e. (x, omega (arith, c, count_in x e s, count_in x e t), ap adm (cond-true (p x) (x ∷ filter p s) (filter p s) e) ∙ a, cond-false (q x) (x ∷ filter q s) (filter q s) (other x e)))
          (λ e. absurd (omega (arith, c, count_out eq p x e t)))
          (cases_Bool (p x))

module _ {A : Type 0} {same : A → A → Bool} (eq : Same same) {adm other : List A → Bool} (m : MatroidLaws same adm) (n : MatroidLaws same other) (p : A → Bool) where
  -- what passes p is independent in the one, the rest in the other
  pub parts_matroid : MatroidLaws same (λ s. adm (filter p s) && other (filter (λ x. not (p x)) s))
  parts_matroid = record {
    nothing = and_from (adm []) (other []) m.nothing n.nothing;
    order = λ r x y s. ap₂ ◌&&◌ (orderless_kept p adm m.order r x y s) (orderless_kept q other n.order r x y s);
    fewer = λ x s h. let k = and_parts (adm (filter p (x ∷ s))) (other (filter q (x ∷ s))) h in and_from (adm (filter p s)) (other (filter q s)) (fewer_kept p m x s k.0) (fewer_kept q n x s k.1);
    exchange = λ s t hs ht l. grow s t (and_parts (adm (filter p s)) (other (filter q s)) hs) (and_parts (adm (filter p t)) (other (filter q t)) ht) l;
  }
    where
      q : A → Bool
      q x = not (p x)

      grow : (s t : List A) → (adm (filter p s) ≡ true) × (other (filter q s) ≡ true) → (adm (filter p t) ≡ true) × (other (filter q t) ≡ true) → length s < length t → (x : A) × (count same x s < count same x t) × ((adm (filter p (x ∷ s)) && other (filter q (x ∷ s))) ≡ true)
      grow s t hs ht l =
          ⊎_elim
          (λ k. let got = part_exchange eq p m q (λ x e. not_from_true (p x) e) s t hs.0 ht.0 k in (got.0, got.1, and_from (adm (filter p (got.0 ∷ s))) (other (filter q (got.0 ∷ s))) got.2 (ap other got.3 ∙ hs.1)))
          (λ k. let got = part_exchange eq q n p (λ x e. not-true (p x) e) s t hs.1 ht.1 (omega (arith, length-filter_both p q (λ x. refl) s, length-filter_both p q (λ x. refl) t)) in (got.0, got.1, and_from (adm (filter p (got.0 ∷ s))) (other (filter q (got.0 ∷ s))) (ap adm got.3 ∙ hs.0) got.2))
          (cases_lt (length (filter p s)) (length (filter p t)))

pub direct_sum_matroid : {A : Type 0} {same : A → A → Bool} (eq : Same same) {adm other : List A → Bool} → MatroidLaws same adm → MatroidLaws same other → (side : A → ℕ) → MatroidLaws same (direct_sum side adm other)
direct_sum_matroid eq m n side = parts_matroid eq m n (λ x. eqb (side x) 0)
