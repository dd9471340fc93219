-- From the promise of the label to plain numbers. Assumes nothing.
use Rattle.std.proofs.Common.{◌≡◌, ℕ, ◌≤◌, List, [], ◌∷◌, map, Some, sum_by, ap, subst, arith}
use Rattle.std.specs.List.{AllByRecursion, slice_get}
use Rattle.std.proofs.lemmas.List.{length-map}
use Rattle.theory.specs.Digits.{binary_length}
use Rattle.theory.specs.Replay.{frames}
use Rattle.theory.proofs.Places.{length_drawn}
use Rattle.frames.specs.declared.frame.Frame.{Frame}
use Rattle.runs.specs.Plain.{LabelStands}

all_arrived : (xs : List Frame) (ps : List ℕ) (s : List Frame) → map (slice_get xs) ps ≡ map Some s → AllByRecursion (λ x. (p : ℕ) × (slice_get xs p ≡ Some x)) s
all_arrived xs ps [] e = tt
all_arrived xs [] (x ∷ s) e = let z : ◌≡◌ {A = ℕ} 0 1 = cc in absurd (omega arith)
all_arrived xs (p ∷ ps) (x ∷ s) e = ((p, cc), all_arrived xs ps s cc)

pub label_stands : LabelStands
label_stands f adm n xs es took gain told l b = record {
  allowed = l.admitted;
  kept = omega (arith, l.arrived.few, length_drawn xs l.arrived.places (frames es) l.arrived.drawn.1, length-map es (λ e. e.0));
  arrived = all_arrived xs l.arrived.places (frames es) l.arrived.drawn.1;
  single = λ some p x e ok. l.quarter (x ∷ []) (record { places = p ∷ []; drawn = ((tt, tt), ap (λ o. o ∷ []) e); few = omega arith }) ok;
  worth = omega (arith, b.tells, b.twice, b.earned);
  most = λ size. omega (arith, b.most);
  none = λ e. let few : took ≤ sum_by (λ (d : Frame × ℕ). binary_length d.1) [] = subst (λ ds. took ≤ sum_by (λ d. binary_length d.1) ds) e l.few in omega arith;
}
