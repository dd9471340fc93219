-- How many frames a replay accepts where each counts one. Assumes nothing.
use Rattle.std.proofs.Common.{◌≡◌, ℕ, suc, ◌+◌, ◌<◌, min, List, [], ◌∷◌, ◌++◌, length, get_or, replicate, fold, sym, refl, ap, ◌∙◌, ap₂, ⊎_elim, add-one, arith}
use Rattle.std.proofs.lemmas.List.{length-map, map-append, length-replicate, get_or-replicate, replicate_more}
use Rattle.std.proofs.lemmas.Bool.{leb-true, le-leb, cases_lt}
use Rattle.theory.specs.Replay.{State, frames, gains, gain_of, step, start, replay}
use Rattle.theory.proofs.Steps.{Passes, step-ways}
use Rattle.outside_laws.specs.Counts.{count_up_to, uniform}

module _ {A : Type 0} (cap most n : ℕ) where
  -- m frames came: as many are accepted as may be, and each is kept with a gain of 1
  record Filled (m : ℕ) (st : State A) : Type 0 where
    taken : length st.accepted ≡ min (min cap most) (min n m)
    ones : gains st.kept ≡ replicate (length st.accepted) 1

  module _ (m : ℕ) (st : State A) (h : Filled m st) (x : A) where
    kept_length : length st.kept ≡ length st.accepted
    kept_length = sym (length-map st.kept (λ e. e.1)) ∙ ap length h.ones ∙ length-replicate (length st.accepted) 1

    frames-length : length (frames st.kept) ≡ length st.accepted
    frames-length = length-map st.kept (λ e. e.0) ∙ kept_length

    kept_gain : (p : ℕ) → p < length st.kept → get_or (gains st.kept) p 0 ≡ 1
    kept_gain p l = ap (λ gs. get_or gs p 0) h.ones ∙ get_or-replicate (length st.accepted) p 1 0 (omega (arith, kept_length))

    one_more : gain_of (count_up_to cap) st x ≡ 1 → gains (st.kept ++ ((x, gain_of (count_up_to cap) st x) ∷ [])) ≡ replicate (suc (length st.accepted)) 1
    one_more e =
        map-append (λ d. d.1) st.kept ((x, gain_of (count_up_to cap) st x) ∷ [])
        ∙ ap₂ (λ gs g. gs ++ (g ∷ [])) h.ones e
        ∙ replicate_more (length st.accepted) 1
        ∙ ap (λ k. replicate k 1) (add-one (length st.accepted))

    passed : Passes (uniform most) n st x (gain_of (count_up_to cap) st x) → length st.accepted ≡ min (min cap most) (min n (suc m))
    passed pass =
        ⊎_elim
        (λ l. ⊎_elim (λ k. absurd (pass.full (le-leb (suc (length (frames st.kept))) most (omega (arith, frames-length)), omega (arith, frames-length)))) (λ k. omega (arith, h.taken)) (cases_lt (length st.accepted) most))
        (λ l. omega (arith, h.taken))
        (cases_lt (length st.accepted) n)

    filled_step : Filled (suc m) (step (count_up_to cap) (uniform most) n st x)
    filled_step =
        step-ways (count_up_to cap) (uniform most) n st x (Filled (suc m))
        (λ none. record { taken = omega (arith, h.taken, none); ones = h.ones })
        (λ pos room fits. record { taken = omega (arith, h.taken, pos, kept_length, frames-length, leb-true (suc (length (frames st.kept))) most fits); ones = one_more (omega (arith, pos)) })
        (λ pos pass. record { taken = passed pass; ones = h.ones })
        (λ pos p took. absurd (omega (arith, took.heavier, kept_gain p took.place)))

  filled_along : (xs : List A) (m : ℕ) (st : State A) → Filled m st → length (fold (step (count_up_to cap) (uniform most) n) st xs).accepted ≡ min (min cap most) (min n (m + length xs))
  filled_along [] m st h = omega (arith, h.taken)
  filled_along (x ∷ xs) m st h = omega (arith, filled_along xs (suc m) (step (count_up_to cap) (uniform most) n st x) (filled_step m st h x))

  pub taken_least : (xs : List A) → length (replay (count_up_to cap) (uniform most) n xs).accepted ≡ min (min cap most) (min n (length xs))
  taken_least xs = omega (arith, filled_along xs 0 start (record { taken = omega arith; ones = refl }))
