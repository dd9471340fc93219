-- The frames of the entries whose weight is at least t. Assumes nothing.
use Rattle.std.proofs.Common.{◌≡◌, ℕ, zero, suc, ◌+◌, ◌<◌, ◌≤◌, Bool, true, false, cond, leb, List, [], ◌∷◌, ◌++◌, length, set, filter, refl, ap, ◌∙◌, arith, if◌then◌else◌, nat_le, slice_index_or}
use Rattle.std.specs.List.{AllByRecursion}
use Rattle.std.proofs.lemmas.List.{length-map}
use Rattle.std.proofs.lemmas.List.Sums.{length-filter}
use Rattle.std.proofs.lemmas.Bool.{leb-true, leb-false, le-leb, lt-leb}
use Rattle.theory.specs.Bag.{count}
use Rattle.theory.proofs.Bags.{count_cons}
use Rattle.theory.specs.Replay.{frames}
use Rattle.theory.proofs.Layers.{tall}

abbrev pub heavy : {A : Type 0} → (A × ℕ → ℕ) → ℕ → List (A × ℕ) → List A
heavy v t es = frames (filter (λ e. nat_le t (v e)) es)

-- how often z comes of the entry e
abbrev pub part : {A : Type 0} → (A → A → Bool) → (A × ℕ → ℕ) → ℕ → A → A × ℕ → ℕ
part same v t z e = if nat_le t (v e) then (if same z e.0 then 1 else 0) else 0

module _ {A : Type 0} (v : A × ℕ → ℕ) (t : ℕ) where
  pub length_heavy : (es : List (A × ℕ)) → length (heavy v t es) ≡ tall v t es
  length_heavy es = length-map (filter (λ e. leb t (v e)) es) (λ e. e.0) ∙ length-filter (λ e. leb t (v e)) es

  -- an entry that was found heavy, of entries that are all as Q says
  pub heavy_has : (same : A → A → Bool) (Q : A × ℕ → Type 0) (x : A) (es : List (A × ℕ)) → AllByRecursion Q es → 0 < count same x (heavy v t es) → (e : A × ℕ) × Q e × (same x e.0 ≡ true) × (t ≤ v e)
  heavy_has same Q x [] q h = absurd (omega arith)
  heavy_has same Q x (e ∷ es) q h = go (leb t (v e)) refl (same x e.0) refl h (λ k. heavy_has same Q x es q.1 k)
    where
      go : (b : Bool) → nat_le t (v e) ≡ b → (c : Bool) → same x e.0 ≡ c → 0 < count same x (frames (if b then e ∷ filter (λ d. nat_le t (v d)) es else filter (λ d. nat_le t (v d)) es)) → (0 < count same x (heavy v t es) → (d : A × ℕ) × Q d × (same x d.0 ≡ true) × (t ≤ v d)) → (d : A × ℕ) × Q d × (same x d.0 ≡ true) × (t ≤ v d)
      go true b true c k ih = (e, q.0, c, leb-true t (v e) b)
      go true b false c k ih = let z : ◌≡◌ {A = ℕ} (cond (same x e.0) 1 0) 0 = ap (λ w. cond w 1 0) c in ih (omega (arith, count_cons))
      go false b true c k ih = ih k
      go false b false c k ih = ih k

module _ {A : Type 0} (same : A → A → Bool) (v : A × ℕ → ℕ) (t : ℕ) (z : A) where
  pub count_heavy : (e : A × ℕ) (es : List (A × ℕ)) → count same z (heavy v t (e ∷ es)) ≡ part same v t z e + count same z (heavy v t es)
  count_heavy e es = go (leb t (v e))
    where
      go : (b : Bool) → count same z (frames (if b then e ∷ filter (λ d. nat_le t (v d)) es else filter (λ d. nat_le t (v d)) es)) ≡ (if b then (if same z e.0 then 1 else 0) else 0) + count same z (heavy v t es)
      go true = count_cons same z e.0 (heavy v t es)
      go false = omega arith

  pub part_light : (e : A × ℕ) → v e < t → part same v t z e ≡ 0
  part_light e h = ap (λ b. cond b (cond (same z e.0) 1 0) 0) (lt-leb t (v e) h)

  pub part_heavy : (e : A × ℕ) → t ≤ v e → part same v t z e ≡ (if same z e.0 then 1 else 0)
  part_heavy e h = ap (λ b. cond b (cond (same z e.0) 1 0) 0) (le-leb t (v e) h)

  part_le : (e : A × ℕ) → part same v t z e ≤ (if same z e.0 then 1 else 0)
  part_le e = go (leb t (v e))
    where
      go : (b : Bool) → (if b then (if same z e.0 then 1 else 0) else 0) ≤ (if same z e.0 then 1 else 0)
      go true = omega arith
      go false = omega arith

  pub heavy_within : (es : List (A × ℕ)) → count same z (heavy v t es) ≤ count same z (frames es)
  heavy_within [] = omega arith
  heavy_within (e ∷ es) = omega (arith, count_cons, count_heavy e es, part_le e, heavy_within es)

  pub heavy_push : (es : List (A × ℕ)) (e : A × ℕ) → count same z (heavy v t (es ++ (e ∷ []))) ≡ count same z (heavy v t es) + part same v t z e
  heavy_push [] e = omega (arith, count_heavy e [])
  heavy_push (d ∷ es) e = omega (arith, count_heavy d es, count_heavy d (es ++ (e ∷ [])), heavy_push es e)

  pub heavy_set : (es : List (A × ℕ)) (p : ℕ) (e d : A × ℕ) → p < length es → count same z (heavy v t (set es p e)) + part same v t z (slice_index_or es p d) ≡ count same z (heavy v t es) + part same v t z e
  heavy_set [] p e d h = absurd (omega arith)
  heavy_set (y ∷ es) zero e d h = omega (arith, count_heavy e es, count_heavy y es)
  heavy_set (y ∷ es) (suc p) e d h = omega (arith, count_heavy y es, count_heavy y (set es p e), heavy_set es p e d (omega arith))

  -- what is not all heavy is light at some place
  pub light_place : (es : List (A × ℕ)) → count same z (heavy v t es) < count same z (frames es) → (p : ℕ) × (p < length es) × ((d : A × ℕ) → same z (slice_index_or es p d).0 ≡ true) × ((d : A × ℕ) → v (slice_index_or es p d) < t)
  light_place [] h = absurd (omega arith)
  light_place (e ∷ es) h = go (leb t (v e)) refl (same z e.0) refl (λ k. light_place es k)
    where
      go : (b : Bool) → nat_le t (v e) ≡ b → (c : Bool) → same z e.0 ≡ c → (count same z (heavy v t es) < count same z (frames es) → (p : ℕ) × (p < length es) × ((d : A × ℕ) → same z (slice_index_or es p d).0 ≡ true) × ((d : A × ℕ) → v (slice_index_or es p d) < t)) → (p : ℕ) × (p < suc (length es)) × ((d : A × ℕ) → same z (slice_index_or (e ∷ es) p d).0 ≡ true) × ((d : A × ℕ) → v (slice_index_or (e ∷ es) p d) < t)
      go true b c s ih = let found = ih (omega (arith, count_cons, h, count_heavy e es, part_heavy e (leb-true t (v e) b))) in (suc found.0, omega (arith, found.1), found.2, found.3)
      go false b true s ih = (0, omega arith, λ d. s, λ d. leb-false t (v e) b)
      go false b false s ih = let none : ◌≡◌ {A = ℕ} (cond (same z e.0) 1 0) 0 = ap (λ w. cond w 1 0) s in let found = ih (omega (arith, count_cons, h, count_heavy e es, part_light e (leb-false t (v e) b))) in (suc found.0, omega (arith, found.1), found.2, found.3)
