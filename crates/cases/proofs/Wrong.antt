-- No case that is told wrongly holds: what it says, computed, are two different things. Assumes nothing.
use Rattle.std.proofs.Common.{◌≡◌, ℕ, true, false, List, [], ◌∷◌, map, Some, refl, ap, ◌∙◌, sum_by, slice_index, replicate, codes, arith}
use Rattle.frames.specs.Settings.{numbers_fault}
use Rattle.frames.specs.declared.frame.Frame.{Frame}
use Rattle.kinds.specs.Objectives.{coverage, uncovered, concave}
use Rattle.kinds.specs.Matroids.{partition, laminar, lies_in}
use Rattle.cycles.specs.Graphs.{graphic}
use Rattle.concave.specs.Steps.{steps_fault}
use Rattle.laminar.specs.Trees.{laminar_fault}
use Rattle.exchange.specs.declared.outcome.Outcome.TheVariants.{Empty}
use Rattle.std.specs.Fmt.{digits}
use Rattle.records.specs.Format.{hexadecimal}
use Rattle.records.specs.Reading.{read_line, read_record, frames_in, left_in}
use Rattle.report.specs.Digest.{count_lines, place_lines, digest}
use Rattle.runs.specs.Histories.{digest_after}
use Rattle.cases.specs.Case.{Holds, offered, outdone, printed, worth, admits}
use Rattle.cases.specs.Five.{shot, records_of_five, digest_of_five}
use Rattle.cases.specs.Program.{weights, caps}
use Rattle.cases.specs.Table.{WrongCasesFail, rising}

-- two numbers, once computed
abbrev Is : ℕ → ℕ → Type 0
Is m n = m ≡ n

-- the frames at some places are determined
some_alike : (xs ys : List Frame) → map Some xs ≡ map Some ys → xs ≡ ys
some_alike [] [] e = refl
some_alike [] (y ∷ ys) e = cc
some_alike (x ∷ xs) [] e = cc
some_alike (x ∷ xs) (y ∷ ys) e = let rest = some_alike xs ys cc in cc

outcome_fails : Holds (offered (shot 1 0x3 0 ∷ []) (Empty ∷ [])) → ⊥
unfolding coverage partition weights caps
outcome_fails h = cc

kept_fails : Holds (outdone rising (3 ∷ []) 5 14) → ⊥
unfolding coverage partition weights caps
kept_fails h = let e : Is 4 5 = h.0 in absurd (omega arith)

choice_fails : Holds (outdone rising (3 ∷ []) 4 15) → ⊥
unfolding coverage partition weights caps
choice_fails h =
    let is = some_alike (shot 4 0x4b 0 ∷ []) h.1.0 h.1.1.0.1 in
    let e : Is 14 15 = ap worth is ∙ h.1.1.2 in
    absurd (omega arith)

lane_fails : Holds (outdone rising (2 ∷ 3 ∷ []) 4 14) → ⊥
unfolding coverage partition weights caps
lane_fails h =
    let is = some_alike (shot 3 0x8 0 ∷ shot 4 0x4b 0 ∷ []) h.1.0 h.1.1.0.1 in
    let e : false ≡ true = ap admits is ∙ h.1.1.1 in
    cc

arrivals_fail : Holds (printed records_of_five (replicate 5 (shot 1 0x3 0)) digest_of_five) → ⊥
unfolding read_line read_record frames_in left_in
arrivals_fail h = let e : Is 15 5 = ap (sum_by (λ x. x.number)) h.0 in absurd (omega arith)

text_fails : Holds (printed (codes "x") [] (codes "size=2\nkept=0\ntook=0\nseen=0\ngain=0\ntold=0\n")) → ⊥
unfolding read_line read_record frames_in left_in
text_fails h = let e = h.1 in cc

print_out_fails : Holds (printed [] [] []) → ⊥
unfolding coverage partition weights caps read_line read_record frames_in left_in digest_after digest count_lines place_lines hexadecimal digits
print_out_fails h = let e : Is 115 0 = ap (λ r. slice_index r.0 0) h.2 in absurd (omega arith)

infixr 20 ◌and◌
abbrev ◌and◌ : {A B : Type 0} → A → B → A × B
a and b = (a, b)

pub wrong_cases_fail : WrongCasesFail
unfolding numbers_fault coverage uncovered steps_fault concave graphic laminar lies_in laminar_fault read_line
wrong_cases_fail =
    outcome_fails and kept_fails and choice_fails and lane_fails and arrivals_fail and text_fails and print_out_fails
    and (λ h. cc)
    and (λ h. let e = h.0 in cc) and (λ h. let e : Is 4294967232 4294967295 = h.1 in absurd (omega arith))
    and (λ h. let e = h.0 in cc) and (λ h. let e : Is 11 14 = h.1 in absurd (omega arith))
    and (λ h. cc)
    and (λ h. let e = h.0 in cc) and (λ h. let e : false ≡ true = h.1 in cc)
    and (λ h. let e = h (λ s. true) (shot 1 0 0) (shot 2 0 0) (shot 3 0 0) refl refl in cc)
    and (λ h. let e = h [] in cc) and (λ h. let e = h (codes "\n") in cc) and (λ h. cc)
    and tt
