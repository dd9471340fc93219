-- A frame that was passed never fits beside the kept frames that are heavy enough. Assumes nothing.
use Rattle.std.proofs.Common.{◌≡◌, ℕ, ◌+◌, ◌*◌, ◌<◌, ◌≤◌, Bool, true, false, cond, ◌⊎◌, List, [], ◌∷◌, ◌++◌, length, set, refl, ap, inl, inr, ⊎_elim, arith, if◌then◌else◌, slice_index, slice_index_or}
use Rattle.std.proofs.lemmas.List.{get_or-map}
use Rattle.std.proofs.lemmas.Bool.{cases_lt}
use Rattle.theory.specs.Bag.{Same, count}
use Rattle.theory.specs.Laws.{MatroidLaws}
use Rattle.theory.specs.Replay.{State, frames, gains}
use Rattle.theory.proofs.Bags.{Alike, count_cons, length_alike}
use Rattle.theory.proofs.Heavy.{heavy, part, part_light, part_heavy, heavy_within, heavy_push, heavy_set}
use Rattle.theory.proofs.Fitting.{Fits, fits_named, fits_within, fits_exchange, light_counts}
use Rattle.theory.proofs.Steps.{Passes, Takes}

abbrev pub twice : {A : Type 0} → A × ℕ → ℕ
twice e = 2 * e.1

-- the frame of e does not fit beside the frames with a gain of at least half of t, for any t up to the gain of e
abbrev pub Barred : {A : Type 0} → (List A → Bool) → ℕ → List (A × ℕ) → A × ℕ → Type 0
Barred adm n es e = (t : ℕ) → 0 < t → t ≤ e.1 → Fits adm n (e.0 ∷ heavy twice t es) → ⊥

module _ {A : Type 0} {same : A → A → Bool} (eq : Same same) {adm : List A → Bool} (room : MatroidLaws same adm) (n : ℕ) where
  pub barred_empty : (es : List (A × ℕ)) (o : A) → Barred adm n es (o, 0)
  barred_empty es o t pos le h = omega arith

  gain_at_lem : (es : List (A × ℕ)) (p : ℕ) (d : A × ℕ) → p < length es → slice_index (gains es) p ≡ (slice_index_or es p d).1
  gain_at_lem es p d h = get_or-map (λ e. e.1) es p d 0 h

  pub barred_passed : (st : State A) (o : A) (g : ℕ) → Fits adm n (frames st.kept) → Passes adm n st o g → Barred adm n st.kept (o, g)
  barred_passed st o g fits pass t pos le h =
      let at = light_counts eq room n twice t o st.kept fits pass.full h in
      omega (arith, at.3 (o, 0), gain_at_lem st.kept at.0 (o, 0) at.1, pass.light at.0 at.1 at.2)

  pub barred_push : (es : List (A × ℕ)) (x e : A × ℕ) → Barred adm n es e → Barred adm n (es ++ (x ∷ [])) e
  barred_push es x e b t pos le h = b t pos le (fits_within eq room n (e.0 ∷ heavy twice t es) (e.0 ∷ heavy twice t (es ++ (x ∷ []))) (λ z. omega (arith, count_cons, heavy_push same twice t z es x)) h)

  -- what x or o alone can bring
  either : (z o x : A) (a b : ℕ) → a < (if same z o then 1 else 0) + b → b ≤ a + (if same z x then 1 else 0) → (same z o ≡ true) ⊎ (same z x ≡ true)
  either z o x a b l m = go (same z o) refl (same z x) refl
    where
      go : (i : Bool) → same z o ≡ i → (j : Bool) → same z x ≡ j → (same z o ≡ true) ⊎ (same z x ≡ true)
      go true p j q = inl p
      go false p true q = inr q
      go false p false q = let u : ◌≡◌ {A = ℕ} (cond (same z o) 1 0) 0 = ap (λ w. cond w 1 0) p in let v : ◌≡◌ {A = ℕ} (cond (same z x) 1 0) 0 = ap (λ w. cond w 1 0) q in absurd (omega arith)

  pub barred_swap : (st : State A) (x : A) (g p : ℕ) → Fits adm n (frames st.kept) → Takes adm n st x g p → (e : A × ℕ) → Barred adm n st.kept e → Barred adm n (set st.kept p (x, g)) e
  barred_swap st x g p fits take e b t pos le h = ⊎_elim light_way heavy_way (cases_lt (2 * w) t)
    where
      es : List (A × ℕ)
      es = st.kept

      old : A × ℕ
      old = slice_index_or es p (x, g)

      w : ℕ
      w = old.1

      low : 2 * w ≤ g
      low = omega (arith, take.heavier, gain_at_lem es p (x, g) take.place)

      moved : (z : A) → count same z (heavy twice t (set es p (x, g))) + part same twice t z old ≡ count same z (heavy twice t es) + part same twice t z (x, g)
      moved z = heavy_set same twice t z es p (x, g) (x, g) take.place

      light_way : 2 * w < t → ⊥
      light_way l = b t pos le (fits_within eq room n (e.0 ∷ heavy twice t es) (e.0 ∷ heavy twice t (set es p (x, g))) (λ z. omega (arith, count_cons, moved z, part_light same twice t z old l)) h)

      heavy_way : t ≤ 2 * w → ⊥
      heavy_way l = ⊎_elim (λ i. b t pos le (fits_named eq room n got.0 e.0 (heavy twice t es) i got.2)) (λ i. no_x (fits_named eq room n got.0 x (heavy twice t es) i got.2)) (either got.0 e.0 x (count same got.0 (heavy twice t es)) (count same got.0 (heavy twice t (set es p (x, g)))) (omega (arith, count_cons, got.1)) (omega (arith, count_cons, gone got.0)))
        where
          gone : Alike same (old.0 ∷ heavy twice t (set es p (x, g))) (x ∷ heavy twice t es)
          gone z = omega (arith, count_cons, moved z, part_heavy same twice t z old l, part_heavy same twice t z (x, g) (omega (arith, l, low)))

          got : (z : A) × (count same z (heavy twice t es) < count same z (e.0 ∷ heavy twice t (set es p (x, g)))) × Fits adm n (z ∷ heavy twice t es)
          got = fits_exchange eq room n (heavy twice t es) (e.0 ∷ heavy twice t (set es p (x, g))) (fits_within eq room n (heavy twice t es) (frames es) (λ z. heavy_within same twice t z es) fits) h (omega (arith, length_alike eq (old.0 ∷ heavy twice t (set es p (x, g))) (x ∷ heavy twice t es) gone))

          no_x : Fits adm n (x ∷ heavy twice t es) → ⊥
          no_x k = let at = light_counts eq room n twice t x es fits take.full k in omega (arith, at.3 (x, g), gain_at_lem es at.0 (x, g) at.1, gain_at_lem es p (x, g) take.place, take.least at.0 at.1 at.2, l)
