-- The views of a row, once it is gone through. Assumes nothing.
use Rattle.std.proofs.Common.{◌≡◌, ℕ, zero, suc, ◌+◌, ◌-◌, ◌<◌, ◌≤◌, min, List, [], ◌∷◌, length, sym, ap, ◌∙◌, arith, slice_index}
use Rattle.std.proofs.lemmas.List.{get_or_past}
use Rattle.kinds.specs.Objectives.{likeness, facility_above}
use Rattle.kinds.proofs.Located.{views_below, views_more, views_all}

module _ {A : Type 0} (look : A → ℕ) (table best : List ℕ) (x : A) (row : List ℕ) (shown : (v : ℕ) → v < 64 → slice_index row v ≡ likeness table (look x) v) where
  -- past the row's end no view has anything to gain
  views_past : (n k : ℕ) → n ≡ min (length row) 64 → n + k ≤ 64 → views_below look table best (n + k) (x ∷ []) ≡ views_below look table best n (x ∷ [])
  views_past n zero e l = let same : n + zero ≡ n = omega arith in ap (λ m. views_below look table best m (x ∷ [])) same
  views_past n (suc k) e l =
      let same : n + suc k ≡ n + k + 1 = omega arith in
      ap (λ m. views_below look table best m (x ∷ [])) same ∙ omega (arith, views_more look table best (x ∷ []) (n + k), views_past n k e (omega arith), shown (n + k) (omega arith), get_or_past row (n + k) 0 (omega arith))

  pub views_of_row : (n : ℕ) → n ≡ min (length row) 64 → views_below look table best n (x ∷ []) ≡ facility_above look table best (x ∷ [])
  views_of_row n e = sym (views_past n (64 - n) e (omega arith)) ∙ views_all look table best (x ∷ []) (n + (64 - n)) (omega arith)
