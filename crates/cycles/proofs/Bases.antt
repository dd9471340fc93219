-- Of two forests the larger has a frame to add to the smaller. Assumes nothing.
use Rattle.std.proofs.Common.{◌≡◌, ℕ, suc, ◌+◌, ◌<◌, ◌≤◌, Bool, true, false, cond, ◌&&◌, eqb, List, [], ◌∷◌, length, sym, refl, ap, ◌∙◌, ap₂, ⊎_elim, arith, if◌then◌else◌, ◌==◌}
use Rattle.std.proofs.lemmas.Bool.{true≢false, cases_lt, and_parts}
use Rattle.theory.specs.Bag.{Same, count}
use Rattle.theory.proofs.Bags.{Within, count_cons, one_self}
use Rattle.cycles.proofs.Parity.{differ, differ_self, differ_false, same_unless, parity, some, once, after, once_after}
use Rattle.cycles.proofs.Forests.{forest, Even, Cycle, pivot, loop, no_cycle, through, forest_swap}

module _ {A : Type 0} (t h : A → ℕ) (x : A) (s : List A) where
  -- a forest that begins with x
  pub forest_head : forest t h (x ∷ s) ≡ true → ((t x == h x) ≡ false) × (forest (after t h x t) (after t h x h) s ≡ true)
  forest_head e = go (eqb (t x) (h x)) refl e
    where
      go : (b : Bool) → (t x == h x) ≡ b → (if b then false else forest (after t h x t) (after t h x h) s) ≡ true → (b ≡ false) × (forest (after t h x t) (after t h x h) s ≡ true)
      go true d k = absurd (true≢false (sym k))
      go false d k = (refl, k)

  pub forest_cons : (t x == h x) ≡ false → forest (after t h x t) (after t h x h) s ≡ true → forest t h (x ∷ s) ≡ true
  forest_cons e k = ap₂ (λ b r. cond b false r) e k

module _ {A : Type 0} where
  -- x touches the stations that z touches, so it may stand for it
  beside : (t h : A → ℕ) (x z : A) → (t x == h x) ≡ false → (after t h z t x == after t h z h x) ≡ true → (c : ℕ) → once t h c x ≡ once t h c z
  beside t h x z e d c = at c ∙ ap (◌&& once t h c z) yes_it
    where
      at : (k : ℕ) → once t h k x ≡ (once t h (h z) x && once t h k z)
      at k = same_unless (once t h k x) (once t h (h z) x && once t h k z) (sym (once_after t h z k x) ∙ loop (after t h z t) (after t h z h) x d k)

      yes_it : once t h (h z) x ≡ true
      yes_it = (and_parts (once t h (h z) x) (once t h (h x) z) (sym (at (h x)) ∙ pivot t h x e)).0

  stand_in : (t h : A → ℕ) (x z : A) (s : List A) → ((c : ℕ) → once t h c x ≡ once t h c z) → Cycle t h (x ∷ s) → Cycle t h (z ∷ s)
  stand_in t h x z s a c = go c.mask c.proper c.even
    where
      go : (m : List Bool) → some m (x ∷ s) ≡ true → Even t h m (x ∷ s) → Cycle t h (z ∷ s)
      go [] p ev = absurd (true≢false (sym p))
      go (b ∷ m) p ev = record { mask = b ∷ m; proper = p; even = λ c. ap (λ w. differ (b && w) (parity (once t h c) m s)) (sym (a c)) ∙ ev c }

-- a forest of all but at most one frame of u, with x
pub record Room {A : Type 0} (same : A → A → Bool) (t h : A → ℕ) (x : A) (u : List A) : Type 0 where
  pub left : List A
  pub fits : forest t h (x ∷ left) ≡ true
  pub short : length u ≤ suc (length left)
  pub within : Within same left u

module _ {A : Type 0} (same : A → A → Bool) where
  pub make_room : (t h : A → ℕ) (x : A) (u : List A) → (t x == h x) ≡ false → forest t h u ≡ true → Room same t h x u
  make_room t h x [] e f = record { left = []; fits = forest_cons t h x [] e refl; short = omega arith; within = λ z. omega arith }
  make_room t h x (z ∷ u) e f =
      let cut = forest_head t h z u f in
      go cut.0 cut.1 (eqb (after t h z t x) (after t h z h x)) refl (λ k. make_room (after t h z t) (after t h z h) x u k cut.1)
    where
      go : (t z == h z) ≡ false → forest (after t h z t) (after t h z h) u ≡ true → (b : Bool) → (after t h z t x == after t h z h x) ≡ b → ((after t h z t x == after t h z h x) ≡ false → Room same (after t h z t) (after t h z h) x u) → Room same t h x (z ∷ u)
      go d k true j ih = record { left = u; fits = through t h (x ∷ u) (z ∷ u) (stand_in t h x z u (beside t h x z e j)) f; short = omega arith; within = λ w. omega (arith, count_cons) }
      go d k false j ih =
          let got = ih j in
          record { left = z ∷ got.left; fits = forest_swap t h z x got.left (forest_cons t h z (x ∷ got.left) d got.fits); short = omega (arith, got.short); within = λ w. omega (arith, count_cons, got.within w) }

module _ {A : Type 0} {same : A → A → Bool} (eq : Same same) where
  -- an element that occurs has a part of its own
  lone : (y : A) (s : List A) → 0 < count same y s → (m : List Bool) × ((w : A → Bool) → parity w m s ≡ w y)
  lone y [] k = absurd (omega arith)
  lone y (z ∷ s) k = go (same y z) refl (omega (arith, count_cons)) (λ j. lone y s j)
    where
      go : (b : Bool) → same y z ≡ b → 0 < (if b then 1 else 0) + count same y s → (0 < count same y s → (m : List Bool) × ((w : A → Bool) → parity w m s ≡ w y)) → (m : List Bool) × ((w : A → Bool) → parity w m (z ∷ s) ≡ w y)
      go true e j ih = (true ∷ [], λ w. differ_false (w z) ∙ ap w (sym (eq.tells y z e)))
      go false e j ih = let got = ih (omega arith) in (false ∷ got.0, got.1)

  -- no frame stands twice in a forest
  pub no_twin : (t h : A → ℕ) (y : A) (s : List A) → forest t h (y ∷ s) ≡ true → count same y s ≤ 0
  no_twin t h y s f = ⊎_elim (λ k. absurd (bad (lone y s k))) (λ k. k) (cases_lt 0 (count same y s))
    where
      bad : (m : List Bool) × ((w : A → Bool) → parity w m s ≡ w y) → ⊥
      bad (m, p) = true≢false (no_cycle t h (y ∷ s) f (true ∷ m) (λ c. ap (differ (once t h c y)) (p (once t h c)) ∙ differ_self (once t h c y)))

  pub one_to_add : (t h : A → ℕ) (s u : List A) → forest t h s ≡ true → forest t h u ≡ true → length s < length u → (y : A) × (0 < count same y u) × (forest t h (y ∷ s) ≡ true)
  one_to_add t h s [] f g l = absurd (omega arith)
  one_to_add t h [] (y ∷ u) f g l = (y, omega (arith, count_cons, one_self eq y), forest_cons t h y [] (forest_head t h y u g).0 refl)
  one_to_add t h (x ∷ s) (z ∷ u) f g l =
      let cut = forest_head t h x s f in
      let room = make_room same t h x (z ∷ u) cut.0 g in
      let got = one_to_add (after t h x t) (after t h x h) s room.left cut.1 (forest_head t h x room.left room.fits).1 (omega (arith, room.short)) in
      (got.0, omega (arith, got.1, room.within got.0), forest_swap t h x got.0 s (forest_cons t h x (got.0 ∷ s) cut.0 got.2))

  pub exchange : (t h : A → ℕ) (s u : List A) → forest t h s ≡ true → forest t h u ≡ true → length s < length u → (y : A) × (count same y s < count same y u) × (forest t h (y ∷ s) ≡ true)
  exchange t h s u f g l = let got = one_to_add t h s u f g l in (got.0, omega (arith, got.1, no_twin t h got.0 s got.2), got.2)
