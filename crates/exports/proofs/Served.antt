-- What a run returned and left. Assumes nothing.
use Rattle.std.proofs.Common.{◌≡◌, ℕ, ◌^◌, ◌<◌, min, Bool, true, false, cond, leb, List, [], length, Some, None, Ok, Err, Option, Result, sym, refl, subst, arith}
use Rattle.std.specs.Result.{IfOk, MatchResult}
use Rattle.std.proofs.lemmas.Bool.{leb-true}
use Rattle.frames.specs.declared.frame.Frame.{Frame}
use Rattle.encoding.specs.Requests.{Requested}
use Rattle.serving.specs.declared.refusal.RunRefusal.{RunRefusal}
use Rattle.serving.specs.declared.refusal.RunRefusal.TheVariants.{ShortAnswers}
use Rattle.serving.specs.Serving.{due_all, answered_all, ran_of, Served}

-- the answers are fewer than 2 ^ 48 bytes, and a refused run keeps the buffer
abbrev pub Told : List ℕ → Result ℕ RunRefusal × List ℕ → Type 0
Told before x = MatchResult x.0 (λ due. due < 2 ^ 48) (λ e. x.1 ≡ before)

told_if : (b : Bool) (due k : ℕ) (all before : List ℕ) → leb due (min k 281474976710655) ≡ b → Told before (cond b (Ok due, all) (Err ShortAnswers, before))
told_if true due k all before h = let few = leb-true due (min k 281474976710655) h in omega arith
told_if false due k all before h = refl

module _ (f : List Frame → ℕ) (adm : List Frame → Bool) (n : ℕ) (bytes before : List ℕ) where
  ran_told : (o : Option (List Requested)) → Told before (ran_of f adm n o before)
  unfolding ran_of
  ran_told None = refl
  ran_told (Some cs) = told_if (leb (due_all cs) (min (length before) 281474976710655)) (due_all cs) (length before) (answered_all f adm n [] cs before) before refl

  pub served_told : (r : Result ℕ RunRefusal) (after : List ℕ) → Served f adm n bytes before r after → Told before (r, after)
  served_told r after s = subst (Told before) (sym s.ran) (ran_told s.calls)

  pub served_few : (r : Result ℕ RunRefusal) (after : List ℕ) → Served f adm n bytes before r after → IfOk r (λ due. due < 2 ^ 48)
  served_few (Ok due) after s = served_told (Ok due) after s
  served_few (Err e) after s = tt
