-- The exported piles: what a list of frames is worth, which frames may stand together, and which settings are refused.
-- Assumes nothing.
use Rattle.std.specs.Prelude.{◌≡◌, ℕ, ◌+◌, ◌*◌, ◌%◌, Bool, List, [], ◌∷◌, Some, None, Ok, Err, Option, Result}
use Rattle.std.specs.Option.{option_map, option_or}
use Rattle.std.specs.Result.{result_err}
use Rattle.kinds.specs.Matroids.{partition, laminar, truncated, direct_sum}
use Rattle.kinds.specs.Objectives.{coverage, facility, concave, steps_of, capped, joint}
use Rattle.cycles.specs.Graphs.{graphic}
use Rattle.frames.specs.Refusals.{number_of}
use Rattle.frames.specs.Settings.{numbers_fault}
use Rattle.frames.specs.declared.frame.Frame.{Frame}
use Rattle.frames.specs.declared.setting.SettingFault.{SettingFault}
use Rattle.concave.specs.Steps.{steps_fault}
use Rattle.laminar.specs.Trees.{laminar_fault}
use Rattle.kept.specs.Sizes.{size_answer}
use Rattle.exports.specs.declared.fault.ArgumentFault.{ArgumentFault}
use Rattle.serving.specs.declared.refusal.RunRefusal.{RunRefusal}
use Rattle.serving.specs.declared.refusal.RunRefusal.TheVariants.{BadCalls, ShortAnswers}
use Rattle.serving.specs.Promise.{Promises}
use Rattle.serving.specs.Serving.{Served}

-- coverage
abbrev pub coverage_of : List ℕ → List Frame → ℕ
coverage_of weights = coverage (λ x. x.marks) weights

-- coverage under a cap, and facility location
abbrev pub capped_facility : List ℕ → ℕ → List ℕ → List Frame → ℕ
capped_facility weights most table = joint 4294967295 (capped most (coverage_of weights)) (facility (λ x. x.look) table)

-- concave counts and coverage
abbrev pub concave_coverage : List ℕ → List ℕ → List Frame → ℕ
concave_coverage steps weights = joint 4294967295 (concave (λ x. x.lane) (steps_of steps)) (coverage_of weights)

-- no lane has more frames than its cap
abbrev pub partition_of : List ℕ → List Frame → Bool
partition_of caps = partition (λ x. x.lane) caps

-- no box has more frames than its cap, and there are at most `most`
abbrev pub truncated_laminar : ℕ → List ℕ → List ℕ → List Frame → Bool
truncated_laminar most caps parents = truncated (laminar (λ x. x.lane) parents caps) most

-- the frames of side 0 are a forest, and no lane has more of the others than its cap
abbrev pub graphic_partition : List ℕ → List Frame → Bool
graphic_partition caps = direct_sum (λ x. x.side) (graphic (λ x. x.tail) (λ x. x.head)) (partition_of caps)

-- a refused argument as a number: the refusal, which argument it is, and the index in it, of 48 bits
abbrev pub refused_as : ArgumentFault → ℕ
refused_as e = number_of e.fault.refusal + 256 * e.place + 65536 * (e.fault.index % 281474976710656)

-- argument k, if it is at fault
abbrev pub argument : ℕ → Option SettingFault → Option ArgumentFault
argument k o = option_map (λ f. record { place = k; fault = f }) o

-- what is wrong with a size
abbrev pub size_fault : ℕ → Option SettingFault
size_fault n = option_map (λ e. record { refusal = e; index = 0 }) (result_err (size_answer n))

-- the first argument of each pile that is at fault
abbrev pub coverage_partition_fault : ℕ → List ℕ → List ℕ → Option ArgumentFault
coverage_partition_fault size weights caps = option_or (argument 1 (size_fault size)) (option_or (argument 2 (numbers_fault 64 67108863 weights)) (argument 3 (numbers_fault 64 48 caps)))

abbrev pub capped_facility_laminar_fault : ℕ → List ℕ → ℕ → List ℕ → List ℕ → Option ArgumentFault
capped_facility_laminar_fault size weights most caps parents =
    option_or (argument 1 (size_fault size)) (option_or (argument 2 (numbers_fault 64 67108863 weights)) (option_or (argument 6 (laminar_fault caps parents)) (argument 5 (numbers_fault 1 48 (most ∷ [])))))

abbrev pub concave_graphic_fault : ℕ → List ℕ → List ℕ → List ℕ → Option ArgumentFault
concave_graphic_fault size steps weights caps =
    option_or (argument 1 (size_fault size)) (option_or (argument 2 (steps_fault 512 8388607 steps)) (option_or (argument 3 (numbers_fault 64 67108863 weights)) (argument 4 (numbers_fault 64 48 caps))))

-- what a run returned, as a number: 65,536 times the bytes of the answers, 13 for bytes that are no calls, 14 for answers
-- that have no room
abbrev pub served_as : Result ℕ RunRefusal → ℕ
served_as (Ok due) = 65536 * due
served_as (Err BadCalls) = 13
served_as (Err ShortAnswers) = 14

-- a run returned the number r, and left `after` of a buffer that held `before`; the promise holds at any point of it
pub record Ran (f : List Frame → ℕ) (adm : List Frame → Bool) (n : ℕ) (bytes before : List ℕ) (r : ℕ) (after : List ℕ) : Type 0 where
  pub answer : Result ℕ RunRefusal
  pub number : r ≡ served_as answer
  pub served : Served f adm n bytes before answer after
  pub promise : Promises f adm n

-- an exported call returned r, and left `after` of a buffer that held `before`: a refused argument's number and the
-- buffer as it was; else the run's
abbrev pub Exported : Option ArgumentFault → (List Frame → ℕ) → (List Frame → Bool) → ℕ → List ℕ → List ℕ → ℕ → List ℕ → Type 0
Exported (Some e) f adm n bytes before r after = (r ≡ refused_as e) × (after ≡ before)
Exported None f adm n bytes before r after = Ran f adm n bytes before r after
