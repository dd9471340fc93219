-- The ways that a step goes. Assumes nothing.
use Rattle.std.proofs.Common.{◌≡◌, ℕ, ◌*◌, ◌<◌, ◌≤◌, Bool, true, false, eqb, ltb, leb, List, ◌∷◌, length, get_or, Some, None, Option, refl, ⊎_elim, arith, if◌then◌else◌, ◌==◌, nat_le, slice_index}
use Rattle.std.proofs.lemmas.List.{length-map}
use Rattle.std.proofs.lemmas.Bool.{leb-true, leb-false, ltb-true, ltb-false, eqb-true, eqb-false, both_ways, and_parts, and_cases}
use Rattle.theory.specs.Replay.{State, frames, gains, lightest, gain_of, keep, swap, offer, may_take, has_room, step}
use Rattle.theory.proofs.Fitting.{Fits}
use Rattle.theory.specs.Lightest.{LightestIs}
use Rattle.theory.proofs.Lightest.{lightest_is}

-- a frame of gain g that is passed: it does not fit beside what is kept, and where it may take a place its gain is too small
pub record Passes {A : Type 0} (adm : List A → Bool) (n : ℕ) (st : State A) (x : A) (g : ℕ) : Type 0 where
  pub full : Fits adm n (x ∷ frames st.kept) → ⊥
  pub light : (p : ℕ) → p < length st.kept → may_take adm st.kept x p ≡ true → g < 2 * slice_index (gains st.kept) p

-- a frame of gain g that takes the place p
pub record Takes {A : Type 0} (adm : List A → Bool) (n : ℕ) (st : State A) (x : A) (g p : ℕ) : Type 0 where
  pub full : Fits adm n (x ∷ frames st.kept) → ⊥
  pub place : p < length st.kept
  pub may : may_take adm st.kept x p ≡ true
  pub least : (q : ℕ) → q < length st.kept → may_take adm st.kept x q ≡ true → slice_index (gains st.kept) p ≤ slice_index (gains st.kept) q
  pub heavier : 2 * slice_index (gains st.kept) p ≤ g

module _ {A : Type 0} (f : List A → ℕ) (adm : List A → Bool) (n : ℕ) (st : State A) (x : A) (P : State A → Type 0) where
  no_room : has_room adm n st.kept x ≡ false → Fits adm n (x ∷ frames st.kept) → ⊥
  no_room e h =
      ⊎_elim (λ l. omega (arith, h.1, ltb-false (length st.kept) n l, length-map st.kept (λ d. d.0))) (λ a. both_ways (adm (x ∷ frames st.kept)) a h.0)
      (and_cases (ltb (length st.kept) n) (adm (x ∷ frames st.kept)) e)

  pub step-ways :
      (gain_of f st x ≡ 0 → P st)
      → (0 < gain_of f st x → length st.kept < n → adm (x ∷ frames st.kept) ≡ true → P (keep st x (gain_of f st x)))
      → (0 < gain_of f st x → Passes adm n st x (gain_of f st x) → P st)
      → (0 < gain_of f st x → (p : ℕ) → Takes adm n st x (gain_of f st x) p → P (swap st p x (gain_of f st x)))
      → P (step f adm n st x)
  step-ways empty kept passed taken = go (eqb g 0) refl
    where
      g : ℕ
      g = gain_of f st x

      es : List (A × ℕ)
      es = st.kept

      long : length (gains es) ≡ length es
      long = length-map es (λ d. d.1)

      go_take : 0 < g → (Fits adm n (x ∷ frames es) → ⊥) → (p : ℕ) → LightestIs (may_take adm st.kept x) (gains es) (Some p) → (b : Bool) → nat_le (2 * slice_index (gains es) p) g ≡ b → P (if b then swap st p x g else st)
      go_take pos full p is true e = taken pos p (record { full = full; place = omega (arith, long, is.0); may = is.1; least = λ q h c. is.2 q (omega (arith, long)) c; heavier = leb-true (2 * get_or (gains es) p 0) g e })
      go_take pos full p is false e = passed pos (record { full = full; light = λ q h c. omega (arith, leb-false (2 * get_or (gains es) p 0) g e, is.2 q (omega (arith, long)) c) })

      go_offer : 0 < g → (Fits adm n (x ∷ frames es) → ⊥) → (o : Option ℕ) → LightestIs (may_take adm st.kept x) (gains es) o → P (offer st x g o)
      go_offer pos full None is = passed pos (record { full = full; light = λ q h c. absurd (is q (omega (arith, long)) c) })
      go_offer pos full (Some p) is = go_take pos full p is (leb (2 * get_or (gains es) p 0) g) refl

      go_room : 0 < g → (b : Bool) → has_room adm n st.kept x ≡ b → P (if b then keep st x g else offer st x g (lightest (may_take adm st.kept x) (gains es)))
      go_room pos true e = let both = and_parts (ltb (length es) n) (adm (x ∷ frames es)) e in kept pos (ltb-true (length es) n both.0) both.1
      go_room pos false e = go_offer pos (no_room e) (lightest (may_take adm st.kept x) (gains es)) (lightest_is (may_take adm st.kept x) (gains es))

      go : (b : Bool) → (g == 0) ≡ b → P (if b then st else if has_room adm n st.kept x then keep st x g else offer st x g (lightest (may_take adm st.kept x) (gains es)))
      go true e = empty (eqb-true g 0 e)
      go false e = let ne = eqb-false g 0 e in go_room (omega (arith, ne)) (has_room adm n st.kept x) refl
