-- A cap on one box more. Assumes nothing.
use Rattle.std.proofs.Common.{◌≡◌, ℕ, ◌+◌, ◌<◌, ◌≤◌, Bool, true, false, cond, not, ◌&&◌, leb, List, [], ◌∷◌, length, count_by, filter, sym, refl, ap, ◌∙◌, ap₂, ⊎_elim, arith}
use mathlib.Core.Bool.{and-true}
use Rattle.std.proofs.lemmas.List.Filters.{length-filter_both}
use Rattle.std.proofs.lemmas.List.Sums.{length-filter}
use Rattle.std.proofs.lemmas.Bool.{cases_lt, and_parts, and_from, not-true, leb-true, le-leb}
use Rattle.theory.specs.Bag.{Same, count}
use Rattle.theory.specs.Laws.{MatroidLaws}
use Rattle.theory.proofs.Orders.{orderless_sum_by, count_by_all, longer_has_more}
use Rattle.kinds.specs.Matroids.{few, Splits, truncated}
use Rattle.kinds.proofs.Counts.{count_steps}
use Rattle.kinds.proofs.Parts.{matroid_same, part_exchange}

module _ {A : Type 0} {same : A → A → Bool} (eq : Same same) {adm : List A → Bool} (m : MatroidLaws same adm) (p : A → Bool) (splits : Splits p adm) (c : ℕ) where
  -- a box of which adm may be asked apart may have a cap
  pub box_matroid : MatroidLaws same (λ s. adm s && few p c s)
  box_matroid = record {
    nothing = and_from (adm []) (leb 0 c) m.nothing (le-leb 0 c (omega arith));
    order = λ r x y s. ap₂ ◌&&◌ (m.order r x y s) (ap (λ n. leb n c) (orderless_sum_by (λ z. cond (p z) 1 0) r x y s));
    fewer = λ x s h. let k = both (x ∷ s) h in and_from (adm s) (few p c s) (m.fewer x s k.0) (le-leb (count_by p s) c (omega (arith, k.1, count_steps p x s)));
    exchange = λ s t hs ht l. grow s t (both s hs) (both t ht) l;
  }
    where
      q : A → Bool
      q x = not (p x)

      both : (s : List A) → (adm s && few p c s) ≡ true → (adm s ≡ true) × (count_by p s ≤ c)
      both s h = let k = and_parts (adm s) (few p c s) h in (k.0, leb-true (count_by p s) c k.1)

      rest : (s : List A) → adm s ≡ true → (adm (filter p s) ≡ true) × (adm (filter q s) ≡ true)
      rest s h = and_parts (adm (filter p s)) (adm (filter q s)) (sym (splits s) ∙ h)

      parts : (s : List A) → count_by p s + length (filter q s) ≡ length s
      parts s = omega (arith, length-filter_both p q (λ x. refl) s, length-filter p s)

      grow : (s t : List A) → (adm s ≡ true) × (count_by p s ≤ c) → (adm t ≡ true) × (count_by p t ≤ c) → length s < length t → (x : A) × (count same x s < count same x t) × ((adm (x ∷ s) && few p c (x ∷ s)) ≡ true)
      grow s t hs ht l =
          ⊎_elim
          (λ k. let got = m.exchange s t hs.0 ht.0 l in (got.0, got.1, and_from (adm (got.0 ∷ s)) (few p c (got.0 ∷ s)) got.2 (le-leb (count_by p (got.0 ∷ s)) c (omega (arith, count_steps p got.0 s)))))
          (λ k.
          let got = part_exchange eq q m p (λ x e. not-true (p x) e) s t (rest s hs.0).1 (rest t ht.0).1 (omega (arith, parts s, parts t, ht.1)) in
          (got.0, got.1, and_from (adm (got.0 ∷ s)) (few p c (got.0 ∷ s)) (splits (got.0 ∷ s) ∙ and_from (adm (filter p (got.0 ∷ s))) (adm (filter q (got.0 ∷ s))) (ap adm got.3 ∙ (rest s hs.0).0) got.2) (le-leb (count_by p (got.0 ∷ s)) c (omega (arith, hs.1, length-filter p s, length-filter p (got.0 ∷ s), ap length got.3)))))
          (cases_lt (count_by p s) c)

kept_all : {A : Type 0} (s : List A) → filter (λ x. true) s ≡ s
kept_all [] = refl
kept_all (x ∷ s) = ap (λ t. x ∷ t) (kept_all s)

kept_none : {A : Type 0} (s : List A) → filter (λ x. false) s ≡ []
kept_none [] = refl
kept_none (x ∷ s) = kept_none s

module _ {A : Type 0} {same : A → A → Bool} (eq : Same same) where
  -- one box for all
  pub truncated_matroid : {adm : List A → Bool} → MatroidLaws same adm → (k : ℕ) → MatroidLaws same (truncated adm k)
  truncated_matroid {adm} m k = matroid_same (λ s. ap (λ n. adm s && leb n k) (count_by_all s)) (box_matroid eq m (λ x. true) (λ s. sym (ap₂ ◌&&◌ (ap adm (kept_all s)) (ap adm (kept_none s) ∙ m.nothing) ∙ and-true (adm s))) k)

  pub free_matroid : MatroidLaws same (λ s. true)
  free_matroid = record {
    nothing = refl;
    order = λ r x y s. refl;
    fewer = λ x s h. refl;
    exchange = λ s t hs ht l. let got = longer_has_more eq s t l in (got.0, got.1, refl);
  }
