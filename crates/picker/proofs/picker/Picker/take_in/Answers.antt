use Rattle.std.proofs.Common.{◌≡◌, ℕ, ◌⊎◌, [], ◌∷◌, ◌++◌, set, sym, refl, ap, subst, inl, inr, arith, rules}
use Rattle.std.proofs.lemmas.List.{length-map}
use Rattle.theory.specs.Replay.{State}
use Rattle.frames.specs.declared.frame.Frame.{Frame}
use Rattle.exchange.specs.declared.outcome.Outcome.{Outcome}
use Rattle.exchange.specs.declared.outcome.Outcome.TheVariants.{Empty, Kept, Swapped, Light, Barred}
use Rattle.kept.specs.Tables.{held}
use Rattle.exchange.proofs.Outcomes.{settled, Fitting, outcome_fitting}
use Rattle.picker.specs.declared.picker.Picker.{Picker}
use Rattle.picker.specs.Offers.{verdict}
use Rattle.picker.proofs.Advances.{begun, advance_passed, advance_accepted}
use Rattle.picker.proofs.picker.Picker.take_in.Goals as goal
use Rattle.objectives.specs.declared.objective.Objective.{Ghosts as Objective}
use Rattle.matroids.specs.declared.matroid.Matroid.{Ghosts as Matroid}

-- what a verdict may be
fitting : {W R : Type 0} (O : Objective W) (M : Matroid R) (p : Picker W R) (x : Frame) (o : Outcome) → o ≡ verdict O M p x → Fitting p.size.n (held p.table) (O.residual p.objective (x ∷ [])) o
fitting O M p x o e =
    let es = held p.table in
    let h = O.residual p.objective (x ∷ []) in
    subst (Fitting p.size.n es h) (sym e) (outcome_fitting p.size.n es h (M.admits p.matroid) x)

pub swap-requires-clause-place : goal.swap-requires-clause-place
swap-requires-clause-place g c =
    let p = c.args.self.now in
    let fit = fitting g.W.Objective g.R.Matroid p c.args.arrival.frame (Swapped c.in-Swapped.place c.in-Swapped.gain c.in-Swapped.left) c.in-Swapped.ensures in
    omega (arith, fit.1, length-map (held p.table) (λ e. e.1))

pub returns-in-Kept-clause-after : goal.returns-in-Kept-clause-after
returns-in-Kept-clause-after g c =
    let p = c.args.self.now in
    let gain = c.in-Kept.gain in
    let o = Kept c.in-Kept.place gain in
    let is = c.in-Kept.ensures in
    let fit = fitting g.W.Objective g.R.Matroid p c.args.arrival.frame o is in
    advance_accepted g.W.Objective g.R.Matroid p c.keep.new.self c.args.arrival.frame o gain (held p.table ++ ((c.args.arrival.frame, gain) ∷ [])) _ is fit.0 refl (search rules) c.keep.ensures

pub returns-in-Swapped-clause-after : goal.returns-in-Swapped-clause-after
returns-in-Swapped-clause-after g c =
    let p = c.args.self.now in
    let gain = c.in-Swapped.gain in
    let o = Swapped c.in-Swapped.place gain c.in-Swapped.left in
    let is = c.in-Swapped.ensures in
    let fit = fitting g.W.Objective g.R.Matroid p c.args.arrival.frame o is in
    advance_accepted g.W.Objective g.R.Matroid p c.swap.new.self c.args.arrival.frame o gain (set (held p.table) c.in-Swapped.place (c.args.arrival.frame, gain)) _ is fit.0 refl (search rules) c.swap.ensures

-- the other outcomes leave what is kept
settled_passed : (st : State Frame) (x : Frame) (o : Outcome) → (o ≡ Empty) ⊎ (((p : ℕ) × (g : ℕ) × (l : ℕ) × (o ≡ Light p g l)) ⊎ ((g : ℕ) × (o ≡ Barred g))) → settled st x o ≡ st
settled_passed st x o (inl e) = ap (settled st x) e
settled_passed st x o (inr (inl w)) = ap (settled st x) w.3
settled_passed st x o (inr (inr w)) = ap (settled st x) w.1

pub returns-in-Empty : goal.returns-in-Empty
returns-in-Empty g c =
    let p = c.args.self.now in
    let o = c.weigh-outcome.result in
    record {
      outcome = c.weigh-outcome.ensures;
      after = advance_passed g.W.Objective g.R.Matroid p _ c.args.arrival.frame o c.weigh-outcome.ensures
          (settled_passed (begun p) c.args.arrival.frame o c.in-Empty.is) (search rules);
    }
