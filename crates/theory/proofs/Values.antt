-- What the laws of an objective give. Assumes nothing.
use Rattle.std.proofs.Common.{◌≡◌, ℕ, zero, suc, ◌+◌, ◌≤◌, Bool, List, [], ◌∷◌, ◌++◌, set, sum_by, arith}
use Rattle.std.specs.List.{AllByRecursion}
use Rattle.std.proofs.lemmas.List.Sums.{sum_by-cons}
use Rattle.theory.specs.Bag.{Same}
use Rattle.theory.specs.Laws.{Submodular}
use Rattle.theory.specs.Replay.{frames}
use Rattle.theory.proofs.Bags.{Within, Alike, count_cons, count_append, rest_of, by_counts}

-- each part of the entries, with c beside it, has a value of at least its gains and v
abbrev pub Earns : {A : Type 0} → (List A → ℕ) → List (A × ℕ) → List A → ℕ → Type 0
Earns f [] c v = v ≤ f c
Earns f (e ∷ es) c v = Earns f es c v × Earns f es (e.0 ∷ c) (e.1 + v)

module _ {A : Type 0} {same : A → A → Bool} (eq : Same same) {f : List A → ℕ} (w : Submodular f) where
  pub worth_alike : (s t : List A) → Alike same s t → f s ≡ f t
  worth_alike s t h = by_counts eq f w.order s t h

  pub worth_append : (r s : List A) → f s ≤ f (r ++ s)
  worth_append [] s = omega arith
  worth_append (x ∷ r) s = omega (arith, worth_append r s, w.more x (r ++ s))

  pub worth_within : (s t : List A) → Within same s t → f s ≤ f t
  worth_within s t h = let left = rest_of eq s t h in omega (arith, worth_append left.0 s, worth_alike (left.0 ++ s) t left.1)

  falls_append : (x : A) (r s : List A) → f (x ∷ (r ++ s)) + f s ≤ f (x ∷ s) + f (r ++ s)
  falls_append x [] s = omega arith
  falls_append x (y ∷ r) s = omega (arith, falls_append x r s, w.falls x y (r ++ s))

  -- what x adds to t is no more than what it adds to a part of t
  pub falls_within : (x : A) (s t : List A) → Within same s t → f (x ∷ t) + f s ≤ f (x ∷ s) + f t
  falls_within x s t h =
      let left = rest_of eq s t h in
      omega (arith, falls_append x left.0 s, worth_alike (left.0 ++ s) t left.1, worth_alike (x ∷ (left.0 ++ s)) (x ∷ t) (λ z. omega (arith, count_cons, left.1 z)))

  -- frames that each add at most their number to a, together add at most the sum
  pub worth-sum : (a : List A) (es : List (A × ℕ)) → AllByRecursion (λ e. f (e.0 ∷ a) ≤ f a + e.1) es → f (frames es ++ a) ≤ f a + sum_by (λ e. e.1) es
  worth-sum a [] h = omega arith
  worth-sum a (e ∷ es) h = omega (arith, worth-sum a es h.1, h.0, sum_by-cons (λ (d : A × ℕ). d.1) e es, falls_within e.0 a (frames es ++ a) (λ z. omega (arith, count_append)))

  earns_alike : (es : List (A × ℕ)) (c d : List A) (v u : ℕ) → Alike same c d → v ≡ u → Earns f es c v → Earns f es d u
  earns_alike [] c d v u a e h = omega (arith, worth_alike c d a, h)
  earns_alike (x ∷ es) c d v u a e h = (earns_alike es c d v u a e h.0, earns_alike es (x.0 ∷ c) (x.0 ∷ d) (x.1 + v) (x.1 + u) (λ z. omega (arith, count_cons, a z)) (omega arith) h.1)

  earns_past : (es : List (A × ℕ)) (x y : A) (g k : ℕ) (c : List A) (v : ℕ) → Earns f es (x ∷ y ∷ c) (g + (k + v)) → Earns f es (y ∷ x ∷ c) (k + (g + v))
  earns_past es x y g k c v h = earns_alike es (x ∷ y ∷ c) (y ∷ x ∷ c) (g + (k + v)) (k + (g + v)) (λ z. omega (arith, count_cons)) (omega arith) h

  pub earns_push : (es : List (A × ℕ)) (x : A) (g : ℕ) (c : List A) (v : ℕ) → Earns f es c v → Earns f es (x ∷ c) (g + v) → Earns f (es ++ ((x, g) ∷ [])) c v
  earns_push [] x g c v h k = (h, k)
  earns_push (e ∷ es) x g c v h k = (earns_push es x g c v h.0 k.0, earns_push es x g (e.0 ∷ c) (e.1 + v) h.1 (earns_past es e.0 x e.1 g c v k.1))

  pub earns_set : (es : List (A × ℕ)) (p : ℕ) (x : A) (g : ℕ) (c : List A) (v : ℕ) → Earns f es c v → Earns f es (x ∷ c) (g + v) → Earns f (set es p (x, g)) c v
  earns_set [] p x g c v h k = h
  earns_set (e ∷ es) zero x g c v h k = (h.0, k.0)
  earns_set (e ∷ es) (suc p) x g c v h k = (earns_set es p x g c v h.0 k.0, earns_set es p x g (e.0 ∷ c) (e.1 + v) h.1 (earns_past es e.0 x e.1 g c v k.1))

  -- what x adds to a, it adds to each part of the entries, if they are all in a
  pub earns_more : (es : List (A × ℕ)) (x : A) (g : ℕ) (a c : List A) (v : ℕ) → Within same (frames es ++ c) a → g + f a ≤ f (x ∷ a) → Earns f es c v → Earns f es (x ∷ c) (g + v)
  earns_more [] x g a c v i m h = omega (arith, h, m, falls_within x c a i)
  earns_more (e ∷ es) x g a c v i m h = (
    earns_more es x g a c v (λ z. omega (arith, count_cons, i z)) m h.0,
    earns_past es x e.0 g e.1 c v (earns_more es x g a (e.0 ∷ c) (e.1 + v) (λ z. omega (arith, count_cons, count_append, i z)) m h.1),
  )

  earns_all : (es : List (A × ℕ)) (c : List A) (v : ℕ) → Earns f es c v → sum_by (λ e. e.1) es + v ≤ f (frames es ++ c)
  earns_all [] c v h = omega arith
  earns_all (e ∷ es) c v h =
      omega (
        arith,
        earns_all es (e.0 ∷ c) (e.1 + v) h.1,
        sum_by-cons (λ (d : A × ℕ). d.1) e es,
        worth_alike (frames es ++ (e.0 ∷ c)) (e.0 ∷ (frames es ++ c)) (λ z. omega (arith, count_cons, count_append)),
      )

  -- the gains together are no more than the value of the frames
  pub earned : (es : List (A × ℕ)) → Earns f es [] 0 → sum_by (λ e. e.1) es ≤ f (frames es)
  earned es h = omega (arith, earns_all es [] 0 h, worth_alike (frames es ++ []) (frames es) (λ z. omega (arith, count_append)))
