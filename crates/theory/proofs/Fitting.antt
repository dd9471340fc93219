-- What the laws of a matroid give, of the independent bags with at most n frames. Assumes nothing.
use Rattle.std.proofs.Common.{◌≡◌, ℕ, zero, suc, ◌+◌, ◌-◌, ◌<◌, ◌≤◌, Bool, true, cond, List, [], ◌∷◌, ◌++◌, length, get_or, ap, ◌∙◌, subst, arith, slice_index_or}
use Rattle.std.specs.List.{remove}
use Rattle.std.proofs.lemmas.List.{get_or-map, length-map}
use Rattle.theory.specs.Bag.{Same, count}
use Rattle.theory.specs.Laws.{MatroidLaws}
use Rattle.theory.specs.Replay.{frames}
use Rattle.theory.proofs.Bags.{Within, Alike, count_cons, count_removed, rest_of, by_counts, length_within, within_back, one_more, one_self, one_both, within_cons}
use Rattle.theory.proofs.Heavy.{heavy, heavy_within, light_place}

-- independent, and at most n
abbrev pub Fits : {A : Type 0} → (List A → Bool) → ℕ → List A → Type 0
Fits adm n s = (adm s ≡ true) × (length s ≤ n)

module _ {A : Type 0} {same : A → A → Bool} (eq : Same same) {adm : List A → Bool} (room : MatroidLaws same adm) (n : ℕ) where
  pub adm_alike : (s t : List A) → Alike same s t → adm s ≡ adm t
  adm_alike s t h = by_counts eq adm room.order s t h

  adm_append : (r s : List A) → adm (r ++ s) ≡ true → adm s ≡ true
  adm_append [] s h = h
  adm_append (x ∷ r) s h = adm_append r s (room.fewer x (r ++ s) h)

  pub fits_within : (s t : List A) → Within same s t → Fits adm n t → Fits adm n s
  fits_within s t h f = let left = rest_of eq s t h in (adm_append left.0 s (adm_alike (left.0 ++ s) t left.1 ∙ f.0), omega (arith, left.2, f.1))

  pub fits_named : (z x : A) (s : List A) → same z x ≡ true → Fits adm n (z ∷ s) → Fits adm n (x ∷ s)
  fits_named z x s e h = subst (λ w. Fits adm n (w ∷ s)) (eq.tells z x e) h

  pub fits_exchange : (s t : List A) → Fits adm n s → Fits adm n t → length s < length t → (x : A) × (count same x s < count same x t) × Fits adm n (x ∷ s)
  fits_exchange s t f g l = let x = room.exchange s t f.0 g.0 l in (x.0, x.1, (x.2, omega (arith, g.1)))

  -- if k fits and o beside k does not, an s that fits and lies in both can be filled up until one z alone is missing
  pub spare : (o : A) (k : List A) → Fits adm n k → (Fits adm n (o ∷ k) → ⊥) → (d : ℕ) (s : List A) → Fits adm n s → Within same s (o ∷ k) → length s + d ≡ suc (length k) → (z : A) × (u : List A) × (count same z s < count same z (o ∷ k)) × Fits adm n u × Alike same (z ∷ u) (o ∷ k)
  spare o k fk none zero s fs i e = absurd (none (fits_within (o ∷ k) s (within_back eq s (o ∷ k) i (omega arith)) fs))
  spare o k fk none (suc zero) s fs i e =
      let z = one_more eq s (o ∷ k) i (omega arith) in
      (z.0, s, omega (arith, count_cons, z.1 z.0, one_self eq z.0), fs, z.1)
  spare o k fk none (suc (suc d)) s fs i e =
      let x = fits_exchange s k fs fk (omega arith) in
      let got = spare o k fk none (suc d) (x.0 ∷ s) x.2 (within_cons eq x.0 s (o ∷ k) i (omega (arith, count_cons, x.1))) (omega arith) in
      (got.0, got.1, omega (arith, count_cons, got.2), got.3, got.4)

  -- o in the place p of z, where u is all but that z
  removed_alike : (o z : A) (u : List A) (es : List (A × ℕ)) (p : ℕ) → p < length es → ((d : A × ℕ) → same z (slice_index_or es p d).0 ≡ true) → Alike same (z ∷ u) (o ∷ frames es) → Alike same (o ∷ remove (frames es) p) u
  removed_alike o z u es p h e a y =
      let long : p < length (frames es) = omega (arith, length-map es (λ d. d.0)) in
      let here : get_or (frames es) p o ≡ (get_or es p (o, 0)).0 = get_or-map (λ d. d.0) es p (o, 0) o h in
      omega (arith, count_cons, a y, count_removed same y (frames es) p o long, ap {B = ℕ} (λ w. cond (same y w) 1 0) here, one_both eq y z (get_or es p (o, 0)).0 (e (o, 0)))

  -- then o may take the place of some entry that is not heavy
  pub light_counts : (v : A × ℕ → ℕ) (t : ℕ) (o : A) (es : List (A × ℕ)) → Fits adm n (frames es) → (Fits adm n (o ∷ frames es) → ⊥) → Fits adm n (o ∷ heavy v t es) → (p : ℕ) × (p < length es) × (adm (o ∷ remove (frames es) p) ≡ true) × ((d : A × ℕ) → v (slice_index_or es p d) < t)
  light_counts v t o es fk none fh = from (spare o (frames es) fk none (length (frames es) - length (heavy v t es)) (o ∷ heavy v t es) fh in' (omega (arith, length_within eq (o ∷ heavy v t es) (o ∷ frames es) in')))
    where
      in' : Within same (o ∷ heavy v t es) (o ∷ frames es)
      in' z = omega (arith, count_cons, heavy_within same v t z es)

      from : (z : A) × (u : List A) × (count same z (o ∷ heavy v t es) < count same z (o ∷ frames es)) × Fits adm n u × Alike same (z ∷ u) (o ∷ frames es) → (p : ℕ) × (p < length es) × (adm (o ∷ remove (frames es) p) ≡ true) × ((d : A × ℕ) → v (slice_index_or es p d) < t)
      from got =
          let at = light_place same v t got.0 es (omega (arith, count_cons, got.2)) in
          let like = removed_alike o got.0 got.1 es at.0 at.1 at.2 got.4 in
          (at.0, at.1, adm_alike (o ∷ remove (frames es) at.0) got.1 like ∙ got.3.0, at.3)
