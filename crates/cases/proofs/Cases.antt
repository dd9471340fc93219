-- Each case of the table holds, by computing it. Assumes nothing.
use Rattle.std.proofs.Common.{[], ◌∷◌, refl, arith}
use Rattle.frames.specs.Settings.{numbers_fault}
use Rattle.kinds.specs.Objectives.{coverage, uncovered, concave}
use Rattle.kinds.specs.Matroids.{partition, laminar, lies_in}
use Rattle.cycles.specs.Graphs.{graphic}
use Rattle.concave.specs.Steps.{steps_fault}
use Rattle.laminar.specs.Trees.{laminar_fault}
use Rattle.std.specs.Fmt.{digits}
use Rattle.records.specs.Format.{hexadecimal}
use Rattle.records.specs.Reading.{read_line, read_record, frames_in, left_in}
use Rattle.report.specs.Digest.{count_lines, place_lines, digest}
use Rattle.runs.specs.Histories.{digest_after}
use Rattle.runs.proofs.Plain.{label_stands}
use Rattle.cases.specs.Case.{Holds, offered, outdone, labelled, printed}
use Rattle.cases.specs.Five.{shot, records_of_five, frames_of_five, outcomes_of_five, digest_of_five}
use Rattle.cases.specs.Program.{weights, caps}
use Rattle.cases.specs.Table.{CasesStand, rising}

outcomes_stand : Holds (offered frames_of_five outcomes_of_five)
unfolding coverage partition weights caps
outcomes_stand = refl

digest_stands : Holds (printed records_of_five frames_of_five digest_of_five)
unfolding coverage partition weights caps read_line read_record frames_in left_in digest_after digest count_lines place_lines hexadecimal digits
digest_stands = (refl, refl, refl)

rising_stands : Holds (outdone rising (3 ∷ []) 4 14)
unfolding coverage partition weights caps
rising_stands = (refl, (shot 4 0x4b 0 ∷ [], (((tt, tt), refl), refl, refl)))

label_in_numbers : Holds (labelled 48 48 1536 2 4)
label_in_numbers f adm xs es took gain told l b =
    let p = label_stands f adm 48 xs es took gain told l b in
    (p.kept, p.most (omega arith), p.worth, p.single (omega arith), p.none)

infixr 20 ◌and◌
abbrev ◌and◌ : {A B : Type 0} → A → B → A × B
a and b = (a, b)

pub cases_stand : CasesStand
unfolding numbers_fault coverage uncovered steps_fault concave graphic laminar lies_in laminar_fault read_line
cases_stand =
    outcomes_stand and rising_stands and label_in_numbers and digest_stands
    and refl and refl and refl and refl
    and (refl, refl, refl)
    and (refl, refl) and (refl, refl)
    and refl and refl and refl and refl and refl
    and (refl, refl) and (refl, refl)
    and (λ adm a b x hb ha. cc) and (λ adm a b x hb ha. cc)
    and (λ rest. refl) and (λ rest. refl) and (λ rest. refl) and refl
    and tt
