-- How the search for the lightest place goes on. Assumes nothing.
use Rattle.std.proofs.Common.{◌≡◌, ℕ, ◌+◌, ◌<◌, Bool, true, false, List, get_or, Some, None, Option, sym, refl, subst, ⊎_elim, arith}
use Rattle.std.proofs.lemmas.Bool.{ltb-true, ltb-false, both_ways, cases_eq}
use Rattle.theory.specs.Lightest.{LightestBelow}
use Rattle.exchange.specs.Search.{lighter_than}

-- a turn asks about p, which stands at i, and goes on at j
module _ (counts : ℕ → Bool) (gs : List ℕ) (i p j : ℕ) (here : p ≡ i) (next : j ≡ i + 1) where
  -- what holds below i and at p holds below j
  upto : {P : ℕ → Type 0} → ((q : ℕ) → q < i → P q) → P p → (q : ℕ) → q < j → P q
  upto {P} below at q l = ⊎_elim (λ e. subst P (sym e) at) (λ e. below q (omega (arith, e))) (cases_eq q p)

  -- p does not count
  pub search_barred : (o : Option ℕ) → counts p ≡ false → LightestBelow counts gs i o → LightestBelow counts gs j o
  search_barred None e h = upto h (λ c. both_ways (counts p) e c)
  search_barred (Some b) e h = (omega (arith, h.0), h.1, upto h.2 (λ c. absurd (both_ways (counts p) e c)), h.3)

  -- p is not lighter
  pub search_heavy : (o : Option ℕ) → lighter_than gs p o ≡ false → LightestBelow counts gs i o → LightestBelow counts gs j o
  search_heavy None e h = absurd (both_ways true e refl)
  search_heavy (Some b) e h = (omega (arith, h.0), h.1, upto h.2 (λ c. ltb-false (get_or gs p 0) (get_or gs b 0) e), h.3)

  -- p is the lightest so far
  pub search_found : (o : Option ℕ) → lighter_than gs p o ≡ true → counts p ≡ true → LightestBelow counts gs i o → LightestBelow counts gs j (Some p)
  search_found None e c h = (omega arith, c, upto (λ q l k. absurd (h q l k)) (λ k. omega arith), λ q l k. absurd (h q (omega arith) k))
  search_found (Some b) e c h =
      let less : get_or gs p 0 < get_or gs b 0 = ltb-true (get_or gs p 0) (get_or gs b 0) e in
      (omega arith, c, upto (λ q l k. omega (arith, h.2 q l k)) (λ k. omega arith), λ q l k. omega (arith, h.2 q (omega arith) k))
