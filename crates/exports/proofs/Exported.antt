-- An exported call, by what its settings were opened as. Assumes nothing.
use Rattle.std.proofs.Common.{◌≡◌, ◌≢◌, ℕ, ◌%◌, Bool, List, None, Ok, Err, Option, Result, refl, subst, arith}
use mathlib.Core.Path.{fun_ext}
use Rattle.std.specs.Result.{IfOk, MatchResult, result_err}
use Rattle.frames.specs.declared.frame.Frame.{Frame}
use Rattle.serving.specs.declared.refusal.RunRefusal.{RunRefusal}
use Rattle.serving.specs.Serving.{Served}
use Rattle.exports.specs.Piles.{refused_as, served_as, Ran, Exported}
use Rattle.exports.specs.Opening.{Opens}
use Rattle.exports.specs.declared.fault.ArgumentFault.{ArgumentFault}
use Rattle.exports.specs.declared.settings.Settings.{Settings}
use Rattle.objectives.specs.declared.objective.Objective.{Ghosts as Objective}
use Rattle.matroids.specs.declared.matroid.Matroid.{Ghosts as Matroid}
use Rattle.exports.proofs.Served.{served_told}

module _ (bytes before : List ℕ) (x : ℕ) (after : List ℕ) where
  -- a run by equal parts, whose arguments are in order
  pub exported_same : (o : Option ArgumentFault) (f g : List Frame → ℕ) (adm alt : List Frame → Bool) (m n : ℕ) → None ≡ o → ((s : List Frame) → f s ≡ g s) → adm ≡ alt → m ≡ n → Ran f adm m bytes before x after → Exported o g alt n bytes before x after
  exported_same o f g adm alt m n none ef ea en r =
      subst (λ o. Exported o g alt n bytes before x after) none
      (subst (λ g. Ran g alt n bytes before x after) (fun_ext ef)
      (subst (λ alt. Ran f alt n bytes before x after) ea
      (subst (λ n. Ran f adm n bytes before x after) en r)))

  ran_by : {W R : Type 0} (O : Objective W) (M : Matroid R) (s : Settings W R) (n : ℕ) (f : List Frame → ℕ) (adm : List Frame → Bool) → Opens O M s n f adm → Ran (O.value s.objective) (M.admits s.matroid) s.size.n bytes before x after → Ran f adm n bytes before x after
  ran_by O M s n f adm o r = exported_same None (O.value s.objective) f (M.admits s.matroid) adm s.size.n n refl o.worth o.rule o.size r

  -- a number of 16 low bits that are not all 0 is a refusal, and a refused run keeps the buffer
  kept_if : (f : List Frame → ℕ) (adm : List Frame → Bool) (n : ℕ) (a : Result ℕ RunRefusal) → x ≡ served_as a → Served f adm n bytes before a after → x % 65536 ≢ 0 → after ≡ before
  kept_if f adm n (Ok due) e s h = absurd (h (omega arith))
  kept_if f adm n (Err a) e s h = served_told f adm n bytes before (Err a) after s

  pub exported_by : {W R : Type 0} (O : Objective W) (M : Matroid R) (r : Result (Settings W R) ArgumentFault) → MatchResult r (λ s. Ran (O.value s.objective) (M.admits s.matroid) s.size.n bytes before x after) (λ e. (x ≡ refused_as e) × (after ≡ before))
      → ((n : ℕ) (f : List Frame → ℕ) (adm : List Frame → Bool) → IfOk r (λ s. Opens O M s n f adm) → Exported (result_err r) f adm n bytes before x after) × (x % 65536 ≢ 0 → after ≡ before)
  exported_by O M (Ok s) ran = (λ n f adm opens. ran_by O M s n f adm opens ran, kept_if (O.value s.objective) (M.admits s.matroid) s.size.n ran.answer ran.number ran.served)
  exported_by O M (Err e) ran = (λ n f adm opens. ran, λ h. ran.1)
