use Rattle.std.proofs.Common.{◌≡◌, ℕ, ◌≤◌, List, [], None, sum_by, Option, ap, ◌∙◌, subst, ap₂, arith}
use Rattle.theory.specs.Digits.{binary_length}
use Rattle.theory.specs.Replay.{replay}
use Rattle.frames.specs.declared.frame.Frame.{Frame}
use Rattle.picker.specs.Calls.{Called, arrivals}
use Rattle.picker.specs.Label.{Label}
use Rattle.runs.specs.declared.call.Answer.{Answer}
use Rattle.runs.specs.Runs.{history, run_on}
use Rattle.kept.specs.Tables.{held}
use Rattle.outside_laws.specs.Counts.{count_up_to, uniform}
use Rattle.outside_laws.proofs.Taken.{taken_least}
use Rattle.outside.proofs.counting.counted.Goals as goal

-- what holds at the settings k and l holds at the given ones, which are equal to them
module _ (n : ℕ) (h : List Called) (k l cap most : ℕ) (same-cap : k ≡ cap) (same-most : l ≡ most) where
  label_at : (es : List (Frame × ℕ)) (took : ℕ) → Label (count_up_to k) (uniform l) n (arrivals h) es took → Label (count_up_to cap) (uniform most) n (arrivals h) es took
  label_at es took w = subst (λ i. Label (count_up_to i) (uniform most) n (arrivals h) es took) same-cap (subst (λ j. Label (count_up_to k) (uniform j) n (arrivals h) es took) same-most w)

  sheet_at : (s t : List ℕ) (a : Option Answer) → (t, a) ≡ run_on (count_up_to k) (uniform l) n [] h s None → t ≡ (run_on (count_up_to cap) (uniform most) n [] h s None).0
  sheet_at s t a e = ap (λ r. r.0) e ∙ ap₂ (λ i j. (run_on (count_up_to i) (uniform j) n [] h s None).0) same-cap same-most

few_at : (f : List Frame → ℕ) (n took : ℕ) (xs : List Frame) (es : List (Frame × ℕ)) (most : ℕ) → Label f (uniform most) n xs es took → took ≤ sum_by (λ e. binary_length e.1) (replay f (uniform most) n xs).kept
few_at f n took xs es most w = subst (λ ds. took ≤ sum_by (λ e. binary_length e.1) ds) w.kept w.few

pub returns : goal.returns
returns c =
    let h = history c.args.calls.now in
    let n = c.args.size.n in
    let cap = c.args.cap in
    let most = c.args.most in
    let p = c.run-ran.result.picker in
    let label = label_at n h c.new.result.cap c.new-2.result cap most c.new.ensures.cap c.new-2.ensures (held p.table) p.took c.run-ran.ensures.label in
    let took : c.counts.result.took ≡ p.took = ap (λ k. k.took) c.counts.ensures.value in
    record {
      took = took ∙ label.accepted;
      least = omega (arith, took, label.accepted, taken_least cap most n (arrivals h));
      few = omega (arith, took, few_at (count_up_to cap) n p.took (arrivals h) (held p.table) most label);
      sheet = sheet_at n h c.new.result.cap c.new-2.result cap most c.new.ensures.cap c.new-2.ensures c.args.sheet.now c.run-ran.new.sheet c.run-ran.result.answer c.run-ran.ensures.left;
    }
