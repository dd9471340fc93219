-- The way of a frame up its boxes, one box at a time. Assumes nothing.
use Rattle.std.proofs.Common.{◌≡◌, ℕ, ◌+◌, ◌-◌, ◌<◌, ◌≤◌, Bool, true, cond, List, length, get_or, set, sym, ap, subst, ⊎_elim, arith}
use Rattle.std.proofs.lemmas.List.{get_or_default, get_or-set_same, get_or-set_other}
use Rattle.std.proofs.lemmas.Bool.{cases_Bool, cases_eq}
use Rattle.kinds.specs.Matroids.{parent_of, lies_in, Parents}
use Rattle.kinds.proofs.Lanes.{lies_self, lies_nowhere, lies_on, parent_outside}

one : {b c : Bool} → b ≡ c → ◌≡◌ {A = ℕ} (cond b 1 0) (cond c 1 0)
one e = ap (λ a. cond a 1 0) e

-- `left` is what `before` leaves, less one for each box from `low` up to b
abbrev pub Upto : List ℕ → List ℕ → ℕ → List ℕ → ℕ → Type 0
Upto parents before low left b = (j : ℕ) → j < 96 → get_or left j 0 + cond (lies_in parents low j) 1 0 ≡ get_or before j 0 + cond (lies_in parents b j) 1 0

module _ (parents : List ℕ) (law : Parents parents) (b : ℕ) (l : b < 96) where
  -- the parent as it is read
  pub parent_read : parent_of parents b ≡ get_or parents b 0
  parent_read = get_or_default parents b 255 0 (omega (arith, law.0))

  pub parent_above : b < get_or parents b 0
  parent_above = omega (arith, parent_read, law.1 b l)

module _ (parents : List ℕ) (law : Parents parents) (before left : List ℕ) (low b : ℕ) (way : Upto parents before low left b) where
  -- b has room for one more
  pub up_more : b < 96 → length left ≡ 96 → 0 < get_or left b 0 → Upto parents before low (set left b (get_or left b 0 - 1)) (get_or parents b 0)
  up_more l long room = subst (Upto parents before low (set left b (get_or left b 0 - 1))) (parent_read parents law b l) (λ j k.
      ⊎_elim
      (λ e. omega (arith, way b l, one (lies_self parents law b), one (parent_outside parents law b l), get_or-set_same left b (get_or left b 0 - 1) 0 (omega arith), ap (λ i. get_or (set left b (get_or left b 0 - 1)) i 0) e, one (ap (lies_in parents low) e), ap (λ i. get_or before i 0) e, one (ap (lies_in parents (parent_of parents b)) e)))
      (λ e. omega (arith, way j k, one (lies_on parents law b j k e), get_or-set_other left b j (get_or left b 0 - 1) 0 (λ f. e (sym f))))
      (cases_eq b j))

  -- b has none
  pub up_full : b < 96 → get_or left b 0 ≡ 0 → (j : ℕ) × (j < 96) × (lies_in parents low j ≡ true) × (get_or before j 0 ≡ 0)
  up_full l none =
      ⊎_elim
      (λ e. (b, l, e, omega (arith, way b l, one (lies_self parents law b), one e)))
      (λ e. absurd (omega (arith, way b l, one (lies_self parents law b), one e)))
      (cases_Bool (lies_in parents low b))

  -- the top is passed
  pub up_all : 96 ≤ b → (j : ℕ) → j < 96 → get_or left j 0 + cond (lies_in parents low j) 1 0 ≡ get_or before j 0
  up_all top j k = omega (arith, way j k, one (lies_nowhere parents law b j top k))
