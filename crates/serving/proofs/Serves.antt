-- A whole run, by whether its bytes are calls and its answers have room. Assumes nothing.
use Rattle.std.proofs.Common.{◌≡◌, ℕ, ◌<◌, ◌≤◌, min, Bool, cond, List, [], length, Some, None, Ok, Err, sym, refl, ap, ◌∙◌, subst, ap₂, le_trans}
use mathlib.Core.Path.{fun_ext}
use native.Mathlib.Nat.{min-le_left}
use Rattle.std.proofs.lemmas.Bool.{le-leb, lt-leb}
use Rattle.frames.specs.declared.frame.Frame.{Frame}
use Rattle.encoding.specs.Requests.{Requested, Encodes}
use Rattle.serving.specs.declared.refusal.RunRefusal.TheVariants.{BadCalls, ShortAnswers}
use Rattle.serving.specs.Serving.{due_all, Due, answered_all, ran_of, Served}

module _ (f : List Frame → ℕ) (adm : List Frame → Bool) (n : ℕ) (bytes before : List ℕ) where
  pub served_none : Due bytes None → Served f adm n bytes before (Err BadCalls) before
  unfolding ran_of
  served_none d = record { calls = None; decodes = d; ran = refl }

  pub served_short : (due : ℕ) → Due bytes (Some due) → min (length before) 281474976710655 < due → Served f adm n bytes before (Err ShortAnswers) before
  unfolding ran_of
  served_short due (cs, e, is) h =
      let short = lt-leb (due_all cs) (min (length before) 281474976710655) (subst (λ d. min (length before) 281474976710655 < d) is h) in
      record { calls = Some cs; decodes = e; ran = sym (ap (λ b. cond b (Ok (due_all cs), answered_all f adm n [] cs before) (Err ShortAnswers, before)) short) }

  -- the picker was opened with what answers as f, adm and n do
  pub served_all : (due : ℕ) (after : List ℕ) (g : List Frame → ℕ) (alt : List Frame → Bool) (k : ℕ) → Due bytes (Some due) → due ≤ min (length before) 281474976710655 → ((s : List Frame) → g s ≡ f s) → alt ≡ adm → k ≡ n → ((cs : List Requested) → Encodes cs bytes → due_all cs ≤ length before → after ≡ answered_all g alt k [] cs before) → Served f adm n bytes before (Ok due) after
  unfolding ran_of
  served_all due after g alt k (cs, e, is) h whole rule size all =
      let room : due_all cs ≤ min (length before) 281474976710655 = subst (λ d. d ≤ min (length before) 281474976710655) is h in
      let fits = le-leb (due_all cs) (min (length before) 281474976710655) room in
      let left : after ≡ answered_all f adm n [] cs before =
      all cs e (le_trans room (min-le_left (length before) 281474976710655)) ∙ ap₂ (λ f a. answered_all f a k [] cs before) (fun_ext whole) rule ∙ ap (λ n. answered_all f adm n [] cs before) size in
      record {
        calls = Some cs;
        decodes = e;
        ran =
            ap₂ (λ d s. (Ok d, s)) is left
            ∙ sym (ap (λ b. cond b (Ok (due_all cs), answered_all f adm n [] cs before) (Err ShortAnswers, before)) fits);
      }
