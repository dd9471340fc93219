-- A replay that goes on: what is left of the value, once some elements are accepted, leads the same way. Assumes nothing.
use Rattle.std.proofs.Common.{◌≡◌, ℕ, ◌+◌, ◌-◌, ◌*◌, ◌≤◌, Bool, true, false, cond, eqb, leb, List, [], ◌∷◌, ◌++◌, get_or, Some, None, fold, Option, sym, refl, ap, ◌∙◌, arith, if◌then◌else◌}
use Rattle.std.proofs.lemmas.List.{append-nil, append_assoc}
use Rattle.theory.specs.Bag.{Orderless}
use Rattle.theory.specs.Laws.{Submodular}
use Rattle.theory.specs.Replay.{State, gains, lightest, gain_of, keep, swap, offer, may_take, has_room, step}
use Rattle.theory.specs.Promise.{told}

-- x may be taken to the front
pub front : {A B : Type 0} (h : List A → B) → Orderless h → (a : List A) (x : A) (s : List A) → h (a ++ (x ∷ s)) ≡ h (x ∷ (a ++ s))
front h o [] x s = refl
front h o (z ∷ a) x s = front (λ t. h (z ∷ t)) (λ p. o (z ∷ p)) a x s ∙ o [] z x (a ++ s)

-- two parts may change places
pub parts_swap : {A B : Type 0} (h : List A → B) → Orderless h → (a b : List A) → h (a ++ b) ≡ h (b ++ a)
parts_swap h o a [] = ap h (append-nil a)
parts_swap h o a (x ∷ b) = front h o a x b ∙ parts_swap (λ t. h (x ∷ t)) (λ p. o (x ∷ p)) a b

-- more elements have no less value
pub grows : {A : Type 0} {f : List A → ℕ} → Submodular f → (a s : List A) → f a ≤ f (a ++ s)
grows {A} {f} w a [] = omega (arith, ap f (append-nil a))
grows {A} {f} w a (x ∷ s) = omega (arith, grows w a s, w.more x (a ++ s), front f w.order a x s)

module _ {A : Type 0} {f : List A → ℕ} (w : Submodular f) (a : List A) where
  -- what is left of the value once a is accepted
  abbrev pub rest : List A → ℕ
  rest s = f (a ++ s) - f a

  gain_later : (b : List A) (x : A) → rest (x ∷ b) - rest b ≡ f (x ∷ (b ++ a)) - f (b ++ a)
  gain_later b x = omega (arith, parts_swap f w.order a (x ∷ b), parts_swap f w.order a b, grows w a b, grows w a (x ∷ b))

  pub told_later : (b : List A) → told f (b ++ a) ≡ told f a + told rest b
  told_later [] = omega arith
  told_later (x ∷ b) = omega (arith, told_later b, gain_later b x)

  pub rest_later : (b s : List A) → rest (b ++ s) - rest b ≡ f ((b ++ a) ++ s) - f (b ++ a)
  rest_later b s =
      let e : f (a ++ (b ++ s)) ≡ f ((b ++ a) ++ s) = ap f (sym (append_assoc a b s)) ∙ parts_swap (λ t. f (t ++ s)) (λ p x y t. ap f (append_assoc p (x ∷ y ∷ t) s) ∙ w.order p x y (t ++ s) ∙ ap f (sym (append_assoc p (y ∷ x ∷ t) s))) a b in
      omega (arith, parts_swap f w.order a b, grows w a b, grows w a (b ++ s))

  -- the same state, where a was accepted before
  abbrev pub behind : State A → State A
  behind st = record { kept = st.kept; accepted = st.accepted ++ a }

  module _ (adm : List A → Bool) (n : ℕ) where
    step_later : (st : State A) (x : A) → step f adm n (behind st) x ≡ behind (step rest adm n st x)
    step_later st x =
        ap (λ g. cond (eqb g 0) (behind st) (cond (has_room adm n es x) (keep (behind st) x g) (offer (behind st) x g (lightest (may_take adm es x) (gains es))))) (sym (gain_later st.accepted x))
        ∙ go (gain_of rest st x) (eqb (gain_of rest st x) 0) (has_room adm n es x) (lightest (may_take adm es x) (gains es))
      where
        es : List (A × ℕ)
        es = st.kept

        by_gain : (g p : ℕ) (b : Bool) → (if b then swap (behind st) p x g else behind st) ≡ behind (if b then swap st p x g else st)
        by_gain g p true = refl
        by_gain g p false = refl

        by_place : (g : ℕ) (o : Option ℕ) → offer (behind st) x g o ≡ behind (offer st x g o)
        by_place g None = refl
        by_place g (Some p) = by_gain g p (leb (2 * get_or (gains es) p 0) g)

        go : (g : ℕ) (b c : Bool) (o : Option ℕ) → (if b then behind st else if c then keep (behind st) x g else offer (behind st) x g o) ≡ behind (if b then st else if c then keep st x g else offer st x g o)
        go g true c o = refl
        go g false true o = refl
        go g false false o = by_place g o

    pub replay_later : (st : State A) (xs : List A) → fold (step f adm n) (behind st) xs ≡ behind (fold (step rest adm n) st xs)
    replay_later st [] = refl
    replay_later st (x ∷ xs) = ap (λ s. fold (step f adm n) s xs) (step_later st x) ∙ replay_later (step rest adm n st x) xs
