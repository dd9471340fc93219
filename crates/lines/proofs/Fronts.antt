-- Digits up to a line feed, as the digits of a window and the byte behind them.
use Rattle.std.proofs.Common.{◌≡◌, ℕ, ◌+◌, ◌<◌, ◌≤◌, min, true, false, List, ◌∷◌, ◌++◌, length, get_or, take, drop, Some, None, sym, ap, ◌∙◌, subst, ⊎_elim, arith, length-take}
use Rattle.std.proofs.lemmas.List.{drop_more, take-append-drop, take-take, get_or-take, length-take-le}
use Rattle.std.proofs.lemmas.Bool.{cases_lt, cases_Bool}
use Rattle.lines.specs.Lines.{Leading, Fronted}
use Rattle.records.specs.Reading.{digit, digits_in, before_feed, number_in}
use Rattle.records.proofs.Feeds.{feed_at}
use Rattle.records.proofs.Notation.{digits_plain, before-take}
use Rattle.lines.proofs.Numbers.{digits_at}

module _ (base : ℕ) (low : base ≤ 16) (most : ℕ) (s : List ℕ) (r : ℕ × ℕ) (h : Leading base (take most s) r) where
  far : r.0 ≤ min most (length s)
  far = rw (← length-take) h.within

  whole : take r.0 (take most s) ≡ take r.0 s
  whole = take-take r.0 most s (omega (arith, far))

  digits : digits_in base (take r.0 s) ≡ true
  digits = subst (λ (t : List ℕ). digits_in base t ≡ true) whole h.digits

  -- a line feed behind the digits is the first one
  pub found : r.0 < length s → get_or s r.0 0 ≡ 10 → Fronted (digits_in base) base most s (Some r)
  found l e =
      let ds : List ℕ = take r.0 s in
      let rest : List ℕ = drop (r.0 + 1) s in
      let d = drop_more s r.0 0 l in
      let t = take-append-drop r.0 s in
      let joined : s ≡ ds ++ (10 ∷ rest) = cc in
      let long : length ds ≡ r.0 = length-take-le r.0 s (omega (arith, l)) in
      let feed : before_feed s ≡ r.0 = ap before_feed joined ∙ (digits_plain base low ds rest digits ∙ long) in
      let window = before-take (most + 1) s (omega (arith, feed, far)) in
      (sym (window ∙ feed), rw length-take (omega (arith, l, far)), digits, h.number ∙ ap (number_in base) whole)

  -- digits stand before a line feed only where they are those
  reaches : (m : ℕ) → m ≤ most → m < length s → get_or s m 0 ≡ 10 → digits_in base (take m s) ≡ true → m ≡ r.0
  reaches m window l e good =
      ⊎_elim
      (λ (p : m < r.0).
      let d = digits_at base (take r.0 s) m digits (rw length-take (omega (arith, p, far))) in
      let g : get_or (take r.0 s) m 0 ≡ 10 = get_or-take r.0 s m 0 p ∙ e in
      absurd (omega (arith, low, d, ap digit g)))
      (λ (p : r.0 ≤ m).
      ⊎_elim
      (λ (q : r.0 < m).
      let d = digits_at base (take m s) r.0 good (rw length-take (omega (arith, q, l))) in
      let g = get_or-take m s r.0 0 q in
      let f = get_or-take most s r.0 0 (omega (arith, q, window)) in
      absurd (omega (arith, d, ap digit g, ap digit f, h.stops (rw length-take (omega (arith, q, window, l))))))
      (λ (q : m ≤ r.0). omega arith)
      (cases_lt r.0 m))
      (cases_lt m r.0)

  pub missed : (r.0 < length s → get_or s r.0 0 ≡ 10 → ⊥) → Fronted (digits_in base) base most s None
  missed none l =
      let window : List ℕ = take (most + 1) s in
      let m : ℕ = before_feed window in
      let n : m < min (most + 1) (length s) = rw (← length-take) l in
      let e : get_or s m 0 ≡ 10 = sym (get_or-take (most + 1) s m 0 (omega (arith, n))) ∙ feed_at window l in
      ⊎_elim
      (λ (good : digits_in base (take m s) ≡ true).
      let same = reaches m (omega (arith, n)) (omega (arith, n)) e good in
      absurd (none (omega (arith, n, same)) (subst (λ (k : ℕ). get_or s k 0 ≡ 10) same e)))
      (λ (bad : digits_in base (take m s) ≡ false). bad)
      (cases_Bool (digits_in base (take m s)))
