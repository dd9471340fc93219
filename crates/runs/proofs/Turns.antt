-- One call after the other. Assumes nothing.
use Rattle.std.proofs.Common.{◌≡◌, ℕ, ◌+◌, ◌<◌, ◌≤◌, Bool, List, [], ◌∷◌, ◌++◌, length, get_or, take, drop, Some, None, Option, sym, ap, ◌∙◌, subst, ap₂}
use mathlib.Core.Path.{fun_ext}
use Rattle.std.proofs.lemmas.List.{map_more, take_all, at_drop_all, at_drop_more}
use Rattle.frames.specs.declared.frame.Frame.{Frame}
use Rattle.picker.specs.declared.picker.Picker.{Picker}
use Rattle.picker.specs.Met.{Met}
use Rattle.picker.specs.Offers.{SameSettings}
use Rattle.picker.proofs.Settings.{settings_on}
use Rattle.runs.specs.declared.call.Call.{Call}
use Rattle.runs.specs.declared.call.Answer.{Answer}
use Rattle.runs.specs.Runs.{called, history, answer_after, sheet_after, run_on}
use Rattle.runs.specs.Carried.{Carried}
use Rattle.objectives.specs.declared.objective.Objective.{Ghosts as Objective}
use Rattle.matroids.specs.declared.matroid.Matroid.{Ghosts as Matroid}

module _ {W R : Type 0} (O : Objective W) (M : Matroid R) (p₀ : Picker W R) (calls : List Call) (s₀ : List ℕ) where
  -- the first i calls led from p₀ to p; the others leave what the whole run leaves
  pub record Led (i : ℕ) (p : Picker W R) (s : List ℕ) (a : Option Answer) : Type 0 where
    pub settings : SameSettings O p₀ p
    pub met : Met O M (history (take i calls)) p
    pub left : run_on (O.value p₀.objective) (M.admits p₀.matroid) p₀.size.n (history (take i calls)) (history (drop i calls)) s a ≡ run_on (O.value p₀.objective) (M.admits p₀.matroid) p₀.size.n [] (history calls) s₀ None

  pub led_more : (i : ℕ) (c d : Call) (p q : Picker W R) (s t : List ℕ) (a : Option Answer) (r : Answer) → i < length calls → get_or calls i d ≡ c → Carried O M (called c) p s r q t → Led i p s a → Led (i + 1) q t (Some r)
  led_more i c d p q s t a r l e k led =
      let more : history (take (i + 1) calls) ≡ history (take i calls) ++ called c ∷ [] = map_more called calls i d l ∙ ap (λ c. history (take i calls) ++ called c ∷ []) e in
      let f = O.value p₀.objective in
      let adm = M.admits p₀.matroid in
      let n = p₀.size.n in
      let same-f : O.value p.objective ≡ f = fun_ext led.settings.value in
      let r-is : r ≡ answer_after f adm n (history (take i calls)) s (called c) =
      k.answer (history (take i calls)) led.met
      ∙ ap₂ (λ f m. answer_after f (M.admits m) p.size.n (history (take i calls)) s (called c)) same-f led.settings.matroid
      ∙ ap (λ n. answer_after f adm n (history (take i calls)) s (called c)) led.settings.size in
      let t-is : t ≡ sheet_after f adm n (history (take i calls)) s (called c) =
      k.sheet (history (take i calls)) led.met
      ∙ ap₂ (λ f m. sheet_after f (M.admits m) p.size.n (history (take i calls)) s (called c)) same-f led.settings.matroid
      ∙ ap (λ n. sheet_after f adm n (history (take i calls)) s (called c)) led.settings.size in
      let step : run_on f adm n (history (take i calls)) (history (drop i calls)) s a ≡ run_on f adm n (history (take i calls) ++ called (get_or calls i d) ∷ []) (history (drop (i + 1) calls)) (sheet_after f adm n (history (take i calls)) s (called (get_or calls i d))) (Some (answer_after f adm n (history (take i calls)) s (called (get_or calls i d)))) =
      at_drop_more (λ cs. run_on f adm n (history (take i calls)) (history cs) s a) calls i d l in
      record {
        settings = settings_on O led.settings k.settings;
        met = subst (λ h. Met O M h q) (sym more) (k.carries (history (take i calls)) led.met);
        left = ap (λ h. run_on f adm n h (history (drop (i + 1) calls)) t (Some r)) more
            ∙ ap₂ (λ t r. run_on f adm n (history (take i calls) ++ called c ∷ []) (history (drop (i + 1) calls)) t (Some r)) t-is r-is
            ∙ sym (step ∙ ap (λ c. run_on f adm n (history (take i calls) ++ called c ∷ []) (history (drop (i + 1) calls)) (sheet_after f adm n (history (take i calls)) s (called c)) (Some (answer_after f adm n (history (take i calls)) s (called c)))) e)
            ∙ led.left;
      }

  -- once no call is left
  pub led_all : (i : ℕ) (p : Picker W R) (s : List ℕ) (a : Option Answer) → length calls ≤ i → Led i p s a → Met O M (history calls) p × ((s, a) ≡ run_on (O.value p₀.objective) (M.admits p₀.matroid) p₀.size.n [] (history calls) s₀ None)
  led_all i p s a l led = (
    subst (λ cs. Met O M (history cs) p) (take_all i calls l) led.met,
    sym (at_drop_all (λ cs. run_on (O.value p₀.objective) (M.admits p₀.matroid) p₀.size.n (history (take i calls)) (history cs) s a) calls i l) ∙ led.left,
  )

-- what depends on the objective's value, the matroid and the size, where these are equal
pub moved : {R : Type 0} (M : Matroid R) (P : (List Frame → ℕ) → (List Frame → Bool) → ℕ → Type 0) {f f' : List Frame → ℕ} {m m' : R} {n n' : ℕ} → ((s : List Frame) → f s ≡ f' s) → m ≡ m' → n ≡ n' → P f (M.admits m) n → P f' (M.admits m') n'
moved M P {f} {f'} {m} {m'} {n} {n'} ef em en h =
    subst (λ f. P f (M.admits m') n') (fun_ext ef) (subst (λ m. P f (M.admits m) n') em (subst (P f (M.admits m)) en h))
