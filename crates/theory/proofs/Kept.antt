-- What a replay keeps true at each step. Assumes nothing.
use Rattle.std.proofs.Common.{◌≡◌, ℕ, ◌+◌, ◌*◌, ◌<◌, ◌≤◌, Bool, true, cond, List, [], ◌∷◌, ◌++◌, length, get_or, set, sum_by, sym, ap, ◌∙◌, subst, arith}
use Rattle.std.specs.List.{remove, AllByRecursion}
use Rattle.std.proofs.ByRecursion.{All-weaker}
use Rattle.std.proofs.lemmas.List.{map_push, map-set, get_or-map, length-map, length-set, length_push}
use Rattle.std.proofs.lemmas.List.Sums.{sum_by_push, sum_by-set}
use Rattle.theory.specs.Bag.{Same, count}
use Rattle.theory.specs.Laws.{Submodular, MatroidLaws}
use Rattle.theory.specs.Digits.{binary_length}
use Rattle.theory.specs.Replay.{State, frames, gain_of, keep, swap, step}
use Rattle.theory.proofs.Bags.{Within, Alike, count_cons, count_append, count_set, count_removed}
use Rattle.theory.proofs.Digits.{binary_length_twice, binary_length_pos}
use Rattle.theory.proofs.Values.{Earns, earns_push, earns_set, earns_more}
use Rattle.theory.proofs.Fitting.{Fits, adm_alike}
use Rattle.theory.proofs.Steps.{Takes, step-ways}
use Rattle.theory.proofs.Span.{Barred, barred_empty, barred_passed, barred_push, barred_swap}
use Rattle.theory.proofs.Places.{Sourced, sourced_more, sourced_push, sourced_set}
use Rattle.theory.proofs.Passed.{Passed}

pub record Inv {A : Type 0} (same : A → A → Bool) (f : List A → ℕ) (adm : List A → Bool) (n : ℕ) (seen : List A) (st : State A) : Type 0 where
  pub fits : Fits adm n (frames st.kept)
  pub sourced : Sourced seen (frames st.kept)
  pub within : Within same (frames st.kept) st.accepted
  pub earns : Earns f st.kept [] 0
  pub told : f st.accepted ≤ 2 * sum_by (λ e. e.1) st.kept
  pub took : length st.accepted ≤ sum_by (λ e. binary_length e.1) st.kept
  pub passed : List (A × ℕ)
  pub offered : Alike same (st.accepted ++ frames passed) seen
  pub barred : AllByRecursion (Passed f adm n st) passed

module _ {A : Type 0} {same : A → A → Bool} (eq : Same same) {f : List A → ℕ} (w : Submodular f) {adm : List A → Bool} (room : MatroidLaws same adm) (n : ℕ) where
  -- the frame x is passed, with the gain that it had
  inv_pass : (seen : List A) (st : State A) (x : A) → Inv same f adm n seen st → Barred adm n st.kept (x, gain_of f st x) → Inv same f adm n (seen ++ (x ∷ [])) st
  inv_pass seen st x inv bar = record {
    fits = inv.fits;
    sourced = sourced_more seen x (frames st.kept) inv.sourced;
    within = inv.within;
    earns = inv.earns;
    told = inv.told;
    took = inv.took;
    passed = (x, gain_of f st x) ∷ inv.passed;
    offered = λ z. omega (arith, count_cons, count_append, inv.offered z);
    barred = ((bar, omega (arith, w.more x st.accepted)), inv.barred);
  }

  -- the gain of a frame falls as others are accepted
  falls_on : (a : List A) (x : A) (e : A × ℕ) → f (e.0 ∷ a) ≤ f a + e.1 → f (e.0 ∷ x ∷ a) ≤ f (x ∷ a) + e.1
  falls_on a x e h = omega (arith, w.falls e.0 x a)

  module _ (seen : List A) (st : State A) (x : A) (pos : 0 < gain_of f st x) (inv : Inv same f adm n seen st) where
    accepts : gain_of f st x + f st.accepted ≤ f (x ∷ st.accepted)
    accepts = omega (arith, w.more x st.accepted, pos)

    earns_x : Earns f st.kept (x ∷ []) (gain_of f st x + 0)
    earns_x = earns_more eq w st.kept x (gain_of f st x) st.accepted [] 0 (λ z. omega (arith, count_append, inv.within z)) accepts inv.earns

    offered_x : Alike same ((x ∷ st.accepted) ++ frames inv.passed) (seen ++ (x ∷ []))
    offered_x z = omega (arith, count_cons, count_append, inv.offered z)

    inv_keep : length st.kept < n → adm (x ∷ frames st.kept) ≡ true → Inv same f adm n (seen ++ (x ∷ [])) (keep st x (gain_of f st x))
    inv_keep room' ok =
        let g = gain_of f st x in
        let es = st.kept in
        let is : frames (es ++ ((x, g) ∷ [])) ≡ frames es ++ (x ∷ []) = map_push (λ e. e.0) es (x, g) in
        let like : Alike same (x ∷ frames es) (frames (es ++ ((x, g) ∷ []))) = λ z. omega (arith, count_cons, count_append, ap (count same z) is) in
        record {
          fits = (sym (adm_alike eq room n (x ∷ frames es) (frames (es ++ ((x, g) ∷ []))) like) ∙ ok, omega (arith, length-map (es ++ ((x, g) ∷ [])) (λ e. e.0), length_push es (x, g)));
          sourced = subst (Sourced (seen ++ (x ∷ []))) (sym is) (sourced_push seen x (frames es) inv.sourced);
          within = λ z. omega (arith, count_cons, inv.within z, like z);
          earns = earns_push eq w es x g [] 0 inv.earns earns_x;
          told = omega (arith, inv.told, accepts, sum_by_push (λ (e : A × ℕ). e.1) es (x, g));
          took = omega (arith, inv.took, binary_length_pos g pos, sum_by_push (λ (e : A × ℕ). binary_length e.1) es (x, g));
          passed = inv.passed;
          offered = offered_x;
          barred = All-weaker (Passed f adm n st) (Passed f adm n (keep st x g)) (λ e h. (barred_push eq room n es (x, g) e h.0, falls_on st.accepted x e h.1)) inv.passed inv.barred;
        }

    inv_swap : (p : ℕ) → Takes adm n st x (gain_of f st x) p → Inv same f adm n (seen ++ (x ∷ [])) (swap st p x (gain_of f st x))
    inv_swap p take =
        let g = gain_of f st x in
        let es = st.kept in
        let is : frames (set es p (x, g)) ≡ set (frames es) p x = map-set (λ e. e.0) es p (x, g) in
        let old = get_or es p (x, g) in
        let long : p < length (frames es) = omega (arith, take.place, length-map es (λ e. e.0)) in
        let low : 2 * old.1 ≤ g = omega (arith, take.heavier, get_or-map (λ (e : A × ℕ). e.1) es p (x, g) 0 take.place) in
        let moved : (z : A) → count same z (frames (set es p (x, g))) + cond (same z (get_or (frames es) p x)) 1 0 ≡ count same z (frames es) + cond (same z x) 1 0 = λ z. omega (arith, ap (count same z) is, count_set same z (frames es) p x x long) in
        let like : Alike same (x ∷ remove (frames es) p) (frames (set es p (x, g))) = λ z. omega (arith, count_cons, moved z, count_removed same z (frames es) p x long) in
        record {
          fits = (sym (adm_alike eq room n (x ∷ remove (frames es) p) (frames (set es p (x, g))) like) ∙ take.may, omega (arith, inv.fits.1, length-map es (λ e. e.0), length-map (set es p (x, g)) (λ e. e.0), length-set es p (x, g)));
          sourced = subst (Sourced (seen ++ (x ∷ []))) (sym is) (sourced_set seen x (frames es) p inv.sourced);
          within = λ z. omega (arith, count_cons, inv.within z, moved z);
          earns = earns_set eq w es p x g [] 0 inv.earns earns_x;
          told = omega (arith, inv.told, accepts, low, sum_by-set (λ (e : A × ℕ). e.1) es p (x, g) (x, g) take.place);
          took = omega (arith, inv.took, binary_length_twice old.1 g pos low, sum_by-set (λ (e : A × ℕ). binary_length e.1) es p (x, g) (x, g) take.place);
          passed = inv.passed;
          offered = offered_x;
          barred = All-weaker (Passed f adm n st) (Passed f adm n (swap st p x g)) (λ e h. (barred_swap eq room n st x g p inv.fits take e h.0, falls_on st.accepted x e h.1)) inv.passed inv.barred;
        }

  pub inv_step : (seen : List A) (st : State A) (x : A) → Inv same f adm n seen st → Inv same f adm n (seen ++ (x ∷ [])) (step f adm n st x)
  inv_step seen st x inv =
      step-ways f adm n st x (Inv same f adm n (seen ++ (x ∷ [])))
      (λ e. inv_pass seen st x inv (subst (λ g. Barred adm n st.kept (x, g)) (sym e) (barred_empty eq room n st.kept x)))
      (λ pos short ok. inv_keep seen st x pos inv short ok)
      (λ pos pass. inv_pass seen st x inv (barred_passed eq room n st x (gain_of f st x) inv.fits pass))
      (λ pos p take. inv_swap seen st x pos inv p take)
