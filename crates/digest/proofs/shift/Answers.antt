use Rattle.std.proofs.Common.{◌≡◌, ℕ, List, [], ◌∷◌, Some, Option, refl, ap, subst}
use Rattle.frames.specs.declared.frame.Frame.{Frame}
use Rattle.frames.specs.Settings.{numbers_fault}
use Rattle.frames.proofs.Settings.{some_none}
use Rattle.records.proofs.Results.{same_ok}
use Rattle.kinds.specs.Matroids.{partition}
use Rattle.kinds.specs.Objectives.{coverage}
use Rattle.kept.specs.Tables.{held}
use Rattle.picker.specs.Calls.{arrivals, reading}
use Rattle.picker.specs.Label.{Label}
use Rattle.runs.specs.declared.call.Answer.{Answer}
use Rattle.runs.specs.Runs.{answer_after}
use Rattle.cases.specs.Program.{places, weights, caps}
use Rattle.digest.proofs.shift.Goals as goal

-- what is promised of the run for settings, with what it leaves in the sheet and answers
abbrev Ran : List ℕ → List ℕ → ℕ → List ℕ → List ℕ → List ℕ → Option Answer → List (Frame × ℕ) → ℕ → Type 0
Ran ws cs n text s t a es took =
    Label (coverage (λ x. x.marks) ws) (partition (λ x. x.lane) cs) n (arrivals (reading text ∷ [])) es took
    × ◌≡◌ {A = List ℕ × Option Answer} (t, a) (s, Some (answer_after (coverage (λ x. x.marks) ws) (partition (λ x. x.lane) cs) n [] s (reading text)))

ran_at : (text s t : List ℕ) (a : Option Answer) (es : List (Frame × ℕ)) (took : ℕ) {ws ws' cs cs' : List ℕ} {n n' : ℕ} → ws ≡ ws' → cs ≡ cs' → n ≡ n' → Ran ws cs n text s t a es took → Ran ws' cs' n' text s t a es took
ran_at text s t a es took {ws} {ws'} {cs} {cs'} {n} {n'} ew ec en r =
    subst (λ ws. Ran ws cs' n' text s t a es took) ew (subst (λ cs. Ran ws cs n' text s t a es took) ec (subst (λ n. Ran ws cs n text s t a es took) en r))

pub returns : goal.returns
unfolding weights caps
returns c =
    let size : c.in_ok-size.size.n ≡ places = same_ok _ _ places refl c.in_ok-size.ensures in
    let p = c.run.result.picker in
    let both = ran_at c.args.text.now c.args.sheet.now c.run.new.sheet c.run.result.answer (held p.table) p.took {ws' = weights} {cs' = caps} c.in_ok-objective.ensures.accepted.0 c.in_ok-matroid.ensures.accepted size (c.run.ensures.label, c.run.ensures.left) in
    record { ran = (both.0, ap (λ r. r.1) both.1); quarter = both.0.quarter; sheet = ap (λ r. r.0) both.1 }

pub returns-in_err-objective : goal.returns-in_err-objective
unfolding numbers_fault
returns-in_err-objective c = absurd (some_none c.in_err-objective.field-0.0 c.in_err-objective.ensures.fault)

pub returns-in_err-matroid : goal.returns-in_err-matroid
unfolding numbers_fault
returns-in_err-matroid c = absurd (some_none c.in_err-matroid.field-0.0 c.in_err-matroid.ensures.fault)
