-- Frames contracted one after another, and the parts that close. Assumes nothing.
use Rattle.std.proofs.Common.{◌≡◌, ℕ, Bool, true, false, cond, ◌&&◌, ◌||◌, eqb, List, [], ◌∷◌, ◌++◌, sym, refl, ap, ◌∙◌, ap₂, if◌then◌else◌, ◌==◌}
use mathlib.Core.Bool.{or-true}
use Rattle.std.proofs.lemmas.Bool.Decides.{same_from_decides}
use Rattle.std.proofs.lemmas.Bool.{eqb-true, eq-eqb, both_ways, true≢false}
use Rattle.cycles.proofs.Parity.{differ, differ_self, differ_false, same_unless, differ_past, or_past, parity, some, parity_none, once, after, parity_after}

-- each frame in turn has two ends, once the head of each before it has got the name of its tail
abbrev pub forest : {A : Type 0} → (A → ℕ) → (A → ℕ) → List A → Bool
forest t h [] = true
forest t h (x ∷ s) = if t x == h x then false else forest (after t h x t) (after t h x h) s

-- the chosen part touches each station an even number of times
abbrev pub Even : {A : Type 0} → (A → ℕ) → (A → ℕ) → List Bool → List A → Type 0
Even t h m s = (c : ℕ) → parity (once t h c) m s ≡ false

pub record Cycle {A : Type 0} (t h : A → ℕ) (s : List A) : Type 0 where
  pub mask : List Bool
  pub proper : some mask s ≡ true
  pub even : Even t h mask s

module _ {A : Type 0} (t h : A → ℕ) (x : A) where
  -- x touches its head once
  pub pivot : (t x == h x) ≡ false → once t h (h x) x ≡ true
  pivot e = ap₂ differ e (eq-eqb (h x) (h x) refl)

  pub loop : (t x == h x) ≡ true → (c : ℕ) → once t h c x ≡ false
  loop e c = ap (λ w. differ (eqb w c) (eqb (h x) c)) (eqb-true (t x) (h x) e) ∙ differ_self (eqb (h x) c)

  pub even-after : (t x == h x) ≡ false → (b : Bool) (m : List Bool) (s : List A) → Even t h (b ∷ m) (x ∷ s) → Even (after t h x t) (after t h x h) m s
  even-after e b m s ev c =
      parity_after t h x c m s
      ∙ ap₂ (λ p q. differ p (q && once t h c x)) (sym (same_unless (b && once t h c x) (parity (once t h c) m s) (ev c))) (sym (same_unless (b && once t h (h x) x) (parity (once t h (h x)) m s) (ev (h x))))
      ∙ ap (λ q. differ (b && once t h c x) ((b && q) && once t h c x)) (pivot e)
      ∙ last b (once t h c x)
    where
      last : (p q : Bool) → differ (p && q) ((p && true) && q) ≡ false
      last true q = differ_self q
      last false q = refl

  pub even-before : (m : List Bool) (s : List A) → Even (after t h x t) (after t h x h) m s → Even t h (parity (once t h (h x)) m s ∷ m) (x ∷ s)
  even-before m s ev c = other (parity (once t h c) m s) (parity (once t h (h x)) m s && once t h c x) (sym (parity_after t h x c m s) ∙ ev c)
    where
      other : (p q : Bool) → differ p q ≡ false → differ q p ≡ false
      other p q k = ap (λ z. differ z p) (sym (same_unless p q k)) ∙ differ_self p

module _ {A : Type 0} where
  -- what is no forest has a part that closes
  pub cycle : (t h : A → ℕ) (s : List A) → forest t h s ≡ false → Cycle t h s
  cycle t h [] e = absurd (true≢false e)
  cycle t h (x ∷ s) e = go (eqb (t x) (h x)) refl e (λ k. cycle (after t h x t) (after t h x h) s k)
    where
      go : (b : Bool) → (t x == h x) ≡ b → (if b then false else forest (after t h x t) (after t h x h) s) ≡ false → (forest (after t h x t) (after t h x h) s ≡ false → Cycle (after t h x t) (after t h x h) s) → Cycle t h (x ∷ s)
      go true d k ih = record { mask = true ∷ []; proper = refl; even = λ c. differ_false (once t h c x) ∙ loop t h x d c }
      go false d k ih =
          let got = ih k in
          record { mask = parity (once t h (h x)) got.mask s ∷ got.mask; proper = ap (λ r. parity (once t h (h x)) got.mask s || r) got.proper ∙ or-true (parity (once t h (h x)) got.mask s); even = even-before t h x got.mask s got.even }

  -- a forest has none
  pub no_cycle : (t h : A → ℕ) (s : List A) → forest t h s ≡ true → (m : List Bool) → Even t h m s → some m s ≡ false
  no_cycle t h s e [] ev = refl
  no_cycle t h [] e (b ∷ m) ev = refl
  no_cycle t h (x ∷ s) e (b ∷ m) ev = go (eqb (t x) (h x)) refl e (λ k j. no_cycle (after t h x t) (after t h x h) s k m j)
    where
      go : (d : Bool) → (t x == h x) ≡ d → (if d then false else forest (after t h x t) (after t h x h) s) ≡ true → (forest (after t h x t) (after t h x h) s ≡ true → Even (after t h x t) (after t h x h) m s → some m s ≡ false) → (b || some m s) ≡ false
      go true d k ih = absurd (true≢false (sym k))
      go false d k ih =
          let rest = ih k (even-after t h x d b m s ev) in
          ap₂ ◌||◌ (chosen b (pivot t h x d) (parity_none (once t h (h x)) m s rest) (ev (h x))) rest
        where
          chosen : (p : Bool) → once t h (h x) x ≡ true → parity (once t h (h x)) m s ≡ false → differ (p && once t h (h x) x) (parity (once t h (h x)) m s) ≡ false → p ≡ false
          chosen true a z k = sym (ap₂ differ a z) ∙ k
          chosen false a z k = refl

  -- where each part that closes has one for it in a forest, there is a forest
  pub through : (t h : A → ℕ) (s u : List A) → (Cycle t h s → Cycle t h u) → forest t h u ≡ true → forest t h s ≡ true
  through t h s u f e = go (forest t h s) refl
    where
      go : (b : Bool) → forest t h s ≡ b → b ≡ true
      go true k = refl
      go false k = let got = f (cycle t h s k) in absurd (both_ways (some got.mask u) (no_cycle t h u e got.mask got.even) got.proper)

  pub forest_fewer : (t h : A → ℕ) (x : A) (s : List A) → forest t h (x ∷ s) ≡ true → forest t h s ≡ true
  forest_fewer t h x s e = through t h s (x ∷ s) (λ c. record { mask = false ∷ c.mask; proper = c.proper; even = c.even }) e

  cycle_swap : (t h : A → ℕ) (x y : A) (s : List A) → Cycle t h (x ∷ y ∷ s) → Cycle t h (y ∷ x ∷ s)
  cycle_swap t h x y s c = go c.mask c.proper c.even
    where
      go : (m : List Bool) → some m (x ∷ y ∷ s) ≡ true → Even t h m (x ∷ y ∷ s) → Cycle t h (y ∷ x ∷ s)
      go [] p ev = absurd (true≢false (sym p))
      go (b ∷ []) p ev = record { mask = false ∷ b ∷ []; proper = p; even = ev }
      go (b ∷ d ∷ m) p ev = record {
        mask = d ∷ b ∷ m;
        proper = or_past d b (some m s) ∙ p;
        even = λ c. differ_past (d && once t h c y) (b && once t h c x) (parity (once t h c) m s) ∙ ev c;
      }

  pub forest_swap : (t h : A → ℕ) (x y : A) (s : List A) → forest t h (x ∷ y ∷ s) ≡ true → forest t h (y ∷ x ∷ s) ≡ true
  forest_swap t h x y s e = through t h (y ∷ x ∷ s) (x ∷ y ∷ s) (cycle_swap t h y x s) e

  pub forest_order : (t h : A → ℕ) (p : List A) (x y : A) (s : List A) → forest t h (p ++ (x ∷ y ∷ s)) ≡ forest t h (p ++ (y ∷ x ∷ s))
  forest_order t h [] x y s = same_from_decides (forest t h (x ∷ y ∷ s)) (forest t h (y ∷ x ∷ s)) (forest_swap t h x y s, forest_swap t h y x s) (λ e. e, λ e. e)
  forest_order t h (z ∷ p) x y s = ap (cond (eqb (t z) (h z)) false) (forest_order (after t h z t) (after t h z h) p x y s)
