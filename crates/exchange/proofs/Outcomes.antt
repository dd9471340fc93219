-- What the tests of a judgement come to, and what a step of the replay is by its outcome. Assumes nothing.
use Rattle.std.proofs.Common.{◌≡◌, ℕ, ◌*◌, ◌<◌, Bool, true, false, cond, eqb, ltb, leb, List, [], ◌∷◌, ◌++◌, length, slice_set, Some, None, Option, sym, refl, ap, ◌∙◌, arith}
use Rattle.std.proofs.lemmas.Bool.{ne_eqb, ltb-true, and_parts, cond-false, cond_both}
use Rattle.theory.specs.Lightest.{LightestIs}
use Rattle.theory.specs.Replay.{State, gains, lightest, gain_of, keep, offer, swap, step, may_take, has_room}
use Rattle.theory.proofs.Lightest.{lightest_is}
use Rattle.theory.proofs.Ways.{lightest_from}
use Rattle.frames.specs.declared.frame.Frame.{Frame}
use Rattle.kept.specs.Tables.{frame_at, gain_at}
use Rattle.exchange.specs.declared.outcome.Outcome.{Outcome}
use Rattle.exchange.specs.declared.outcome.Outcome.TheVariants.{Empty, Kept, Swapped, Light, Barred}
use Rattle.exchange.specs.Outcomes.{displaced, outcome_of, PlaceStands}

module _ (adm : List Frame → Bool) (n : ℕ) (es : List (Frame × ℕ)) (x : Frame) (g : ℕ) (pos : 0 < g) where
  pub displaced_outcome : has_room adm n es x ≡ false → (o : Option ℕ) → LightestIs (may_take adm es x) (gains es) o → displaced es g o ≡ outcome_of adm n es x g
  displaced_outcome e o is =
      sym (cond-false (eqb g 0) Empty (cond (has_room adm n es x) (Kept (length es) g) (displaced es g (lightest (may_take adm es x) (gains es)))) (ne_eqb g 0 (λ z. omega arith))
      ∙ ap (λ b. cond b (Kept (length es) g) (displaced es g (lightest (may_take adm es x) (gains es)))) e
      ∙ ap (displaced es g) (lightest_from (may_take adm es x) (gains es) o is))

-- what is kept after an outcome
abbrev pub kept_after : Outcome → Frame → List (Frame × ℕ) → List (Frame × ℕ)
kept_after Empty x es = es
kept_after (Kept p g) x es = es ++ ((x, g) ∷ [])
kept_after (Swapped p g l) x es = slice_set es p (x, g)
kept_after (Light p g l) x es = es
kept_after (Barred g) x es = es

-- whether x is kept, so that the objective has it added
abbrev pub accepted : Outcome → Bool
accepted Empty = false
accepted (Kept p g) = true
accepted (Swapped p g l) = true
accepted (Light p g l) = false
accepted (Barred g) = false

-- the state after an outcome
abbrev pub settled : State Frame → Frame → Outcome → State Frame
settled st x o = record { kept = kept_after o x st.kept; accepted = cond (accepted o) (x ∷ st.accepted) st.accepted }

module _ (f : List Frame → ℕ) (adm : List Frame → Bool) (n : ℕ) (st : State Frame) (x : Frame) where
  pub step_outcome : step f adm n st x ≡ settled st x (outcome_of adm n st.kept x (gain_of f st x))
  step_outcome = go (eqb g 0) (has_room adm n es x) (lightest (may_take adm es x) (gains es))
    where
      g : ℕ
      g = gain_of f st x

      es : List (Frame × ℕ)
      es = st.kept

      by_gain : (p : ℕ) (b : Bool) → cond b (swap st p x g) st ≡ settled st x (cond b (Swapped p g (frame_at es p)) (Light p g (gain_at es p)))
      by_gain p true = refl
      by_gain p false = refl

      by_place : (o : Option ℕ) → offer st x g o ≡ settled st x (displaced es g o)
      by_place None = refl
      by_place (Some p) = by_gain p (leb (2 * gain_at es p) g)

      go : (b c : Bool) (o : Option ℕ) → cond b st (cond c (keep st x g) (offer st x g o)) ≡ settled st x (cond b Empty (cond c (Kept (length es) g) (displaced es g o)))
      go true c o = refl
      go false true o = refl
      go false false o = by_place o

module _ (n : ℕ) (es : List (Frame × ℕ)) (g : ℕ) where
  -- what an outcome of gain g may be: a kept frame has room, and a swapped one has a place
  abbrev pub Fitting : Outcome → Type 0
  Fitting Empty = Unit {0}
  Fitting (Kept p h) = (h ≡ g) × (length es < n)
  Fitting (Swapped p h l) = (h ≡ g) × (p < length (gains es))
  Fitting (Light p h l) = Unit {0}
  Fitting (Barred h) = Unit {0}

  pub outcome_fitting : (adm : List Frame → Bool) (x : Frame) → Fitting (outcome_of adm n es x g)
  outcome_fitting adm x =
      cond_both (eqb g 0) Empty _ Fitting (λ _. tt)
      (λ _. cond_both (has_room adm n es x) (Kept (length es) g) _ Fitting
      (λ e. (refl, ltb-true (length es) n (and_parts (ltb (length es) n) _ e).0))
      (λ _. by_place (lightest (may_take adm es x) (gains es)) (lightest_is (may_take adm es x) (gains es))))
    where
      by_place : (o : Option ℕ) → LightestIs (may_take adm es x) (gains es) o → Fitting (displaced es g o)
      by_place None is = tt
      by_place (Some p) is = cond_both (leb (2 * gain_at es p) g) (Swapped p g (frame_at es p)) (Light p g (gain_at es p)) Fitting (λ _. (refl, is.0)) (λ _. tt)

module _ (adm : List Frame → Bool) (es : List (Frame × ℕ)) (x : Frame) where
  -- the next place for a kept frame, and else the one that the replay finds
  abbrev Replayed : Outcome → Type 0
  Replayed Empty = Unit {0}
  Replayed (Kept p g) = p ≡ length es
  Replayed (Swapped p g l) = lightest (may_take adm es x) (gains es) ≡ Some p
  Replayed (Light p g l) = lightest (may_take adm es x) (gains es) ≡ Some p
  Replayed (Barred g) = lightest (may_take adm es x) (gains es) ≡ None

  -- a place that stands is no other one
  pub place_replayed : (o : Outcome) → PlaceStands adm es x o → Replayed o
  place_replayed Empty h = tt
  place_replayed (Kept p g) h = h
  place_replayed (Swapped p g l) h = lightest_from (may_take adm es x) (gains es) (Some p) h
  place_replayed (Light p g l) h = lightest_from (may_take adm es x) (gains es) (Some p) h
  place_replayed (Barred g) h = lightest_from (may_take adm es x) (gains es) None h
