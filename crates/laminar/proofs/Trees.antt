-- What it means that the settings of a tree are refused, or not. Assumes nothing.
use Rattle.std.proofs.Common.{◌≡◌, ℕ, zero, suc, ◌+◌, ◌<◌, ◌≤◌, true, false, List, [], ◌∷◌, length, get_or, drop, Some, None, ap, ◌∙◌, ⊎_elim, arith}
use Rattle.std.proofs.lemmas.List.{at_drop_more, get_or_default, get_or_past}
use Rattle.std.proofs.lemmas.Bool.{cases_lt, cond-true, cond-false}
use Rattle.frames.specs.declared.refusal.Refusal.TheVariants.{BadParent}
use Rattle.frames.proofs.Settings.{passed}
use Rattle.kinds.specs.Matroids.{may_hold, Parents}
use Rattle.laminar.specs.Trees.{first_bad_parent}

module _ (ps : List ℕ) (b : ℕ) (d : ℕ) where
  -- box b may have its parent
  pub bad_more : b < length ps → may_hold b (get_or ps b d) ≡ true → first_bad_parent b (drop b ps) ≡ first_bad_parent (b + 1) (drop (b + 1) ps)
  bad_more l h = at_drop_more (first_bad_parent b) ps b d l ∙ cond-true (may_hold b (get_or ps b d)) (first_bad_parent (b + 1) (drop (b + 1) ps)) (Some (record { refusal = BadParent; index = b })) h

  -- it may not
  pub bad_here : b < length ps → may_hold b (get_or ps b d) ≡ false → first_bad_parent b (drop b ps) ≡ Some (record { refusal = BadParent; index = b })
  bad_here l h = at_drop_more (first_bad_parent b) ps b d l ∙ cond-false (may_hold b (get_or ps b d)) (first_bad_parent (b + 1) (drop (b + 1) ps)) (Some (record { refusal = BadParent; index = b })) h

-- each box, counted from b on, may have its parent; a box past the end has none
bad_none : (b : ℕ) (ps : List ℕ) → first_bad_parent b ps ≡ None → (k : ℕ) → may_hold (b + k) (get_or ps k 255) ≡ true
bad_none b [] e k = λ i. true
bad_none b (p ∷ ps) e k = let may = passed (may_hold b p) _ _ e in at k may.0 (bad_none (b + 1) ps may.1)
  where
    at : (k : ℕ) → may_hold b p ≡ true → ((i : ℕ) → may_hold (b + 1 + i) (get_or ps i 255) ≡ true) → may_hold (b + k) (get_or (p ∷ ps) k 255) ≡ true
    at zero t rest = ap (λ n. may_hold n p) (omega arith) ∙ t
    at (suc i) t rest = ap (λ n. may_hold n (get_or ps i 255)) (omega arith) ∙ rest i

-- a list that is not refused makes a tree
pub all_may : (parents : List ℕ) → first_bad_parent 0 parents ≡ None → (b : ℕ) → may_hold b (get_or parents b 255) ≡ true
all_may parents e b = ap (λ n. may_hold n (get_or parents b 255)) (omega arith) ∙ bad_none 0 parents e b

-- a parent fits a byte
pub parents_low : (parents : List ℕ) → Parents parents → (i : ℕ) → get_or parents i 0 ≤ 255
parents_low parents law i =
    ⊎_elim
    (λ l. omega (arith, law.1 i l, get_or_default parents i 255 0 (omega (arith, law.0))))
    (λ l. omega (arith, get_or_past parents i 0 (omega (arith, law.0))))
    (cases_lt i 96)
