-- What a replay promises. Assumes nothing.
use Rattle.std.proofs.Common.{◌≡◌, ℕ, ◌+◌, ◌*◌, ◌≤◌, Bool, true, List, [], ◌∷◌, ◌++◌, length, fold, sum_by, sym, refl, subst, arith}
use Rattle.std.proofs.lemmas.List.{append_assoc, length-map}
use Rattle.std.proofs.ByRecursion.{All-weaker, sum_by_le}
use Rattle.std.proofs.lemmas.List.Sums.{sum_by-cons}
use Rattle.theory.specs.Bag.{Same, Drawn}
use Rattle.theory.specs.Laws.{Submodular, MatroidLaws}
use Rattle.theory.specs.Replay.{State, frames, step, start, replay}
use Rattle.theory.specs.Promise.{told, gain, Promised, Stands}
use Rattle.theory.specs.Digits.{binary_length}
use Rattle.theory.proofs.Digits.{binary_length_least}
use Rattle.theory.proofs.Layers.{bounded}
use Rattle.theory.proofs.Values.{earned}
use Rattle.theory.proofs.Span.{twice}
use Rattle.theory.proofs.Places.{drawn_within, length_drawn}
use Rattle.theory.proofs.Passed.{choice_bound}
use Rattle.theory.proofs.Kept.{Inv, inv_step}

sum_twice : {A : Type 0} (es : List (A × ℕ)) → sum_by twice es ≡ 2 * sum_by (λ e. e.1) es
sum_twice [] = refl
sum_twice {A} (e ∷ es) = omega (arith, sum_twice es, sum_by-cons (λ (d : A × ℕ). d.1) e es, sum_by-cons twice e es)

module _ {A : Type 0} {f : List A → ℕ} (w : Submodular f) where
  pub told_is : (s : List A) → told f s ≡ f s
  told_is [] = sym w.nothing
  told_is (x ∷ s) = omega (arith, told_is s, w.more x s)

module _ {A : Type 0} {same : A → A → Bool} (eq : Same same) {f : List A → ℕ} (w : Submodular f) {adm : List A → Bool} (room : MatroidLaws same adm) (n : ℕ) where
  inv_start : Inv same f adm n [] start
  inv_start = record {
    fits = (room.nothing, omega arith);
    sourced = record { places = []; below = tt; drawn = (tt, refl) };
    within = λ z. omega arith;
    earns = omega arith;
    told = omega (arith, w.nothing);
    took = omega arith;
    passed = [];
    offered = λ z. refl;
    barred = tt;
  }

  inv_folded : (seen : List A) (st : State A) (arrivals : List A) → Inv same f adm n seen st → Inv same f adm n (seen ++ arrivals) (fold (step f adm n) st arrivals)
  inv_folded seen st [] inv = rw mathlib.Core.List.append-nil inv
  inv_folded seen st (x ∷ arrivals) inv = subst (λ s. Inv same f adm n s (fold (step f adm n) (step f adm n st x) arrivals)) (append_assoc seen (x ∷ []) arrivals) (inv_folded (seen ++ (x ∷ [])) (step f adm n st x) arrivals (inv_step eq w room n seen st x inv))

  promised_of : (arrivals : List A) (st : State A) → Inv same f adm n arrivals st → Promised f adm n arrivals st
  promised_of arrivals st inv = record {
    admitted = inv.fits.0;
    few = omega (arith, inv.fits.1, length-map st.kept (λ e. e.0));
    drawn = (inv.sourced.places, inv.sourced.drawn);
    quarter = λ c h ok. omega (arith, bounds h.places c h.drawn h.few ok, inv.told, own);
    took = inv.took;
    tells = told_is w st.accepted;
    bound = λ c h ok. omega (arith, bounds h.places c h.drawn h.few ok, told_is w st.accepted);
    twice = omega (arith, inv.told, told_is w st.accepted);
    earned = own;
  }
    where
      own : gain st ≤ f (frames st.kept)
      own = earned eq w st.kept inv.earns

      bounds : (ps : List ℕ) (c : List A) → Drawn arrivals ps c → length ps ≤ n → adm c ≡ true → f c ≤ f st.accepted + 2 * gain st
      bounds ps c d l ok = omega (arith, sum_twice st.kept, choice_bound eq room n w st inv.passed c inv.fits inv.barred (λ z. omega (arith, inv.offered z, drawn_within same arrivals ps c d z)) (ok, omega (arith, length_drawn arrivals ps c d.1)))

  pub promised : (arrivals : List A) → Promised f adm n arrivals (replay f adm n arrivals)
  promised arrivals = promised_of arrivals (replay f adm n arrivals) (inv_folded [] start arrivals inv_start)

  -- with values that 32 bits hold, at most 32 frames are accepted for each place
  pub took_few : ((s : List A) → f s ≤ 4294967295) → (arrivals : List A) (st : State A) → Promised f adm n arrivals st → length st.accepted ≤ 32 * n
  took_few small arrivals st p =
      let low = bounded (λ (e : A × ℕ). e.1) st.kept 4294967295 (omega (arith, p.earned, small (frames st.kept))) in
      let short = All-weaker (λ (e : A × ℕ). e.1 ≤ 4294967295) (λ e. binary_length e.1 ≤ 32) (λ e h. binary_length_least 32 e.1 (omega arith)) st.kept low in
      omega (arith, p.took, p.few, sum_by_le (λ (e : A × ℕ). binary_length e.1) 32 st.kept short)

pub stands : (A : Type 0) → Stands A
stands A same f adm n eq w room arrivals = promised eq w room n arrivals
