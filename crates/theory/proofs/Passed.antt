-- A choice from what was accepted and what was passed: what it takes of each, and its bound. Assumes nothing.
use Rattle.std.proofs.Common.{◌≡◌, ℕ, ◌+◌, ◌<◌, ◌≤◌, Bool, true, false, cond, List, [], ◌∷◌, ◌++◌, sum_by, refl, ap, ⊎_elim, arith}
use Rattle.std.specs.List.{AllByRecursion}
use Rattle.std.proofs.ByRecursion.{All-weaker}
use Rattle.std.proofs.lemmas.Bool.{cases_lt}
use Rattle.std.specs.Set.{remove_key}
use Rattle.theory.specs.Bag.{Same, count}
use Rattle.theory.specs.Laws.{Submodular, MatroidLaws}
use Rattle.theory.specs.Replay.{State, frames}
use Rattle.theory.proofs.Bags.{Within, Alike, count_cons, count_append, count_without}
use Rattle.theory.proofs.Layers.{tall, layers}
use Rattle.theory.proofs.Heavy.{heavy, heavy_within, length_heavy, heavy_has}
use Rattle.theory.proofs.Values.{worth_within, worth-sum}
use Rattle.theory.proofs.Fitting.{Fits, fits_named, fits_within, fits_exchange}
use Rattle.theory.proofs.Span.{twice, Barred}

-- c lies in a and the entries es: b is what it takes of a, and ds are the entries that it takes
pub record Parted {A : Type 0} (same : A → A → Bool) (Q : A × ℕ → Type 0) (a c : List A) : Type 0 where
  pub b : List A
  pub ds : List (A × ℕ)
  pub within : Within same b a
  pub all : AllByRecursion Q ds
  pub alike : Alike same (b ++ frames ds) c

module _ {A : Type 0} {same : A → A → Bool} (eq : Same same) where
  within_drop : (e : A) (a s c : List A) → Within same c (a ++ (e ∷ s)) → count same e c ≤ 0 → Within same c (a ++ s)
  within_drop e a s c h none z = go (same z e) refl
    where
      go : (i : Bool) → same z e ≡ i → count same z c ≤ count same z (a ++ s)
      go true p = omega (arith, ap (λ w. count same w c) (eq.tells z e p))
      go false p = let u : ◌≡◌ {A = ℕ} (cond (same z e) 1 0) 0 = ap (λ w. cond w 1 0) p in omega (arith, count_cons, count_append, h z)

  pub part_choice : (Q : A × ℕ → Type 0) (a : List A) (es : List (A × ℕ)) (c : List A) → AllByRecursion Q es → Within same c (a ++ frames es) → Parted same Q a c
  part_choice Q a [] c q h = record { b = c; ds = []; within = λ z. omega (arith, count_append, h z); all = tt; alike = λ z. omega (arith, count_append) }
  part_choice Q a (e ∷ es) c q h =
      ⊎_elim (λ has. add has (part_choice Q a es (remove_key (same e.0) c) q.1 (λ z. omega (arith, count_cons, count_append, h z, count_without eq z e.0 c has))))
      (λ none. part_choice Q a es c q.1 (within_drop e.0 a (frames es) c h none)) (cases_lt 0 (count same e.0 c))
    where
      add : 0 < count same e.0 c → Parted same Q a (remove_key (same e.0) c) → Parted same Q a c
      add has r = record { b = r.b; ds = e ∷ r.ds; within = r.within; all = (q.0, r.all); alike = λ z. omega (arith, count_cons, count_append, r.alike z, count_without eq z e.0 c has) }

-- what holds of a passed frame and the gain that it had
abbrev pub Passed : {A : Type 0} → (List A → ℕ) → (List A → Bool) → ℕ → State A → A × ℕ → Type 0
Passed f adm n st e = Barred adm n st.kept e × (f (e.0 ∷ st.accepted) ≤ f st.accepted + e.1)

module _ {A : Type 0} {same : A → A → Bool} (eq : Same same) {adm : List A → Bool} (room : MatroidLaws same adm) (n : ℕ) where
  -- of barred entries that fit together no more are at least t than of the kept ones
  layer_le : (es ds : List (A × ℕ)) → Fits adm n (frames es) → Fits adm n (frames ds) → AllByRecursion (Barred adm n es) ds → (t : ℕ) → 0 < t → tall (λ e. e.1) t ds ≤ tall twice t es
  layer_le es ds fe fd bars t pos = ⊎_elim (λ l. absurd (no l)) (λ k. k) (cases_lt (tall twice t es) (tall (λ e. e.1) t ds))
    where
      no : tall twice t es < tall (λ e. e.1) t ds → ⊥
      no l =
          let got = fits_exchange eq room n (heavy twice t es) (heavy (λ e. e.1) t ds) (fits_within eq room n (heavy twice t es) (frames es) (λ z. heavy_within same twice t z es) fe) (fits_within eq room n (heavy (λ e. e.1) t ds) (frames ds) (λ z. heavy_within same (λ e. e.1) t z ds) fd) (omega (arith, length_heavy twice t es, length_heavy (λ (e : A × ℕ). e.1) t ds)) in
          let has = heavy_has (λ e. e.1) t same (Barred adm n es) got.0 ds bars (omega (arith, got.1)) in
          has.1 t pos has.3 (fits_named eq room n got.0 has.0.0 (heavy twice t es) has.2 got.2)

  -- the bound of every choice that fits
  pub choice_bound : {f : List A → ℕ} (w : Submodular f) (st : State A) (passed : List (A × ℕ)) (c : List A) → Fits adm n (frames st.kept) → AllByRecursion (Passed f adm n st) passed → Within same c (st.accepted ++ frames passed) → Fits adm n c → f c ≤ f st.accepted + sum_by twice st.kept
  choice_bound {f} w st passed c fits all in' fc =
      let r = part_choice eq (Passed f adm n st) st.accepted passed c all in' in
      let a = st.accepted in
      let ds = r.ds in
      let fd = fits_within eq room n (frames ds) c (λ z. omega (arith, count_append, r.alike z)) fc in
      let bars = All-weaker (Passed f adm n st) (Barred adm n st.kept) (λ e h. h.0) ds r.all in
      let adds = All-weaker (Passed f adm n st) (λ e. f (e.0 ∷ a) ≤ f a + e.1) (λ e h. h.1) ds r.all in
      let big = worth_within eq w c (frames ds ++ a) (λ z. omega (arith, count_append, r.alike z, r.within z)) in
      omega (arith, big, worth-sum eq w a ds adds, layers (λ (e : A × ℕ). e.1) twice ds st.kept (λ t pos. layer_le st.kept ds fits fd bars t pos))
