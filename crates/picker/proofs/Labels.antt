-- From what a picker has met to the promise of the label. Assumes nothing.
use Rattle.std.proofs.Common.{◌≡◌, ℕ, ◌-◌, ◌*◌, ◌≤◌, Bool, true, false, cond, eqb, leb, List, [], ◌∷◌, ◌++◌, length, take, Some, None, Err, MatchBool, sum_by, Option, Result, sym, refl, ap, ◌∙◌, subst, arith}
use mathlib.Core.Path.{fun_ext}
use Rattle.std.proofs.lemmas.List.{length-map}
use Rattle.std.proofs.lemmas.List.Sums.{fold_push}
use Rattle.theory.specs.Bag.{Choice}
use Rattle.theory.specs.Digits.{binary_length}
use Rattle.theory.specs.Promise.{Promised, told}
use Rattle.theory.specs.Replay.{State, frames, replay}
use Rattle.theory.proofs.Places.{length_drawn}
use Rattle.theory.proofs.Theorem.{promised, took_few}
use Rattle.frames.specs.declared.frame.Frame.{Frame}
use Rattle.frames.specs.declared.refusal.Refusal.{Refusal}
use Rattle.frames.specs.declared.refusal.Refusal.TheVariants.{Over, ShiftFull}
use Rattle.frames.proofs.Equality.{same-frames}
use Rattle.kept.specs.Tables.{held}
use Rattle.exchange.specs.declared.outcome.Outcome.{Outcome}
use Rattle.faults.specs.declared.fault.TextFault.{TextFault}
use Rattle.faults.specs.declared.fault.TextFault.TheVariants.{LongText}
use Rattle.records.specs.Reading.{frames_in}
use Rattle.picker.specs.declared.picker.Picker.{Picker}
use Rattle.picker.specs.Arrivals.{too_high}
use Rattle.picker.specs.Entries.{total}
use Rattle.picker.specs.Calls.{Called, offering, reading, clearing, arrive, arrive_by, arrivals}
use Rattle.picker.specs.Met.{nothing, Met, Labelled, Bounded, Promises}
use Rattle.picker.specs.Offers.{After, Advanced, Answered, Offered, Opened, Emptied, refusal_of}
use Rattle.picker.specs.Texts.{taken_in, text_answer, TextOffered}
use Rattle.picker.proofs.Onward.{after_more}
use Rattle.objectives.specs.declared.objective.Objective.{Ghosts as Objective}
use Rattle.matroids.specs.declared.matroid.Matroid.{Ghosts as Matroid}

pub arrivals_push : (h : List Called) (c : Called) → arrivals (h ++ c ∷ []) ≡ arrive_by (arrivals h) c
arrivals_push h c = fold_push arrive_by [] h c

-- the arrivals, once x was offered
abbrev entered : Option Refusal → List Frame → Frame → List Frame
entered None xs x = xs ++ x ∷ []
entered (Some e) xs x = xs

arrive_entered : (xs : List Frame) (x : Frame) → arrive xs x ≡ entered (refusal_of x (length xs)) xs x
arrive_entered xs x = go (too_high x) (eqb (length xs) 1000000)
  where
    go : (a b : Bool) → cond a xs (cond b xs (xs ++ x ∷ [])) ≡ entered (cond a (Some Over) (cond b (Some ShiftFull) None)) xs x
    go true b = refl
    go false true = refl
    go false false = refl

module _ {W R : Type 0} (O : Objective W) (M : Matroid R) where
  -- the same, for an objective, a matroid and a size that are equal
  moved : {f f' : List Frame → ℕ} {m m' : R} {n n' : ℕ} {xs xs' : List Frame} {p : Picker W R} → f' ≡ f → m' ≡ m → n' ≡ n → xs' ≡ xs → After O M f m n nothing xs p → After O M f' m' n' nothing xs' p
  moved {f} {f'} {m} {m'} {n} {n'} {xs} {xs'} {p} ef em en ex h =
      subst (λ f. After O M f m' n' nothing xs' p) (sym ef)
      (subst (λ m. After O M f m n' nothing xs' p) (sym em)
      (subst (λ n. After O M f m n nothing xs' p) (sym en)
      (subst (λ xs. After O M f m n nothing xs p) (sym ex) h)))

  -- a look leaves the arrivals
  pub met_same : (h : List Called) (c : Called) (p : Picker W R) → arrive_by (arrivals h) c ≡ arrivals h → Met O M h p → Met O M (h ++ c ∷ []) p
  met_same h c p e k = moved refl refl refl (arrivals_push h c ∙ e) k

  pub met_none : (h : List Called) (p : Picker W R) → arrivals h ≡ [] → held p.table ≡ [] → p.took ≡ 0 → p.seen ≡ 0 → p.gain ≡ 0 → p.told ≡ 0 → O.value p.objective [] ≡ 0 → ((s : List Frame) → O.residual p.objective s ≡ O.value p.objective s) → Met O M h p
  met_none h p e k t n g d z l = moved refl refl refl e (record { kept = k; took = t; seen = n; gain = g; tells = d; size = refl; matroid = refl; left = λ s. l s ∙ omega (arith, z) })

  pub met_open : (n : ℕ) (objective : W) (matroid : R) (p : Picker W R) → Opened O n objective matroid p → Met O M [] p
  met_open n objective matroid p o =
      met_none [] p refl o.kept o.took o.seen o.gain o.tells (O.laws p.objective).whole.submodular.nothing (λ s. o.left s ∙ sym (o.whole s))

  met_advanced : (xs ys : List Frame) (p q : Picker W R) → After O M (O.value p.objective) p.matroid p.size.n nothing xs p → Advanced O M p ys q → After O M (O.value q.objective) q.matroid q.size.n nothing (xs ++ ys) q
  met_advanced xs ys p q h k =
      moved (fun_ext k.whole) k.stands.matroid k.stands.size refl
      (after_more O M (O.value p.objective) (O.laws p.objective).whole.submodular p.matroid p.size.n nothing xs ys p q h k)

  pub met_offer : (h : List Called) (p : Picker W R) (x : Frame) (r : Result Outcome Refusal) (q : Picker W R) → Offered O M p x r q → Met O M h p → Met O M (h ++ offering x ∷ []) q
  met_offer h p x r q o k =
      let seen : p.seen ≡ length (arrivals h) = k.seen ∙ omega arith in
      let on : arrivals (h ++ offering x ∷ []) ≡ entered (refusal_of x p.seen) (arrivals h) x = arrivals_push h (offering x) ∙ arrive_entered (arrivals h) x ∙ ap (λ n. entered (refusal_of x n) (arrivals h) x) (sym seen) in
      moved refl refl refl on (go (refusal_of x p.seen) o)
    where
      go : (e : Option Refusal) → Answered O M p x r q e → After O M (O.value q.objective) q.matroid q.size.n nothing (entered e (arrivals h) x) q
      go None a = met_advanced (arrivals h) (x ∷ []) p q k a.1
      go (Some e) a = subst (λ q. After O M (O.value q.objective) q.matroid q.size.n nothing (arrivals h) q) (sym a.1) k

  pub met_text : (h : List Called) (p : Picker W R) (text : List ℕ) (r : Result ℕ TextFault) (q : Picker W R) → TextOffered O M p text r q → Met O M h p → Met O M (h ++ reading text ∷ []) q
  met_text h p text r q o k =
      let seen : p.seen ≡ length (arrivals h) = k.seen ∙ omega arith in
      moved refl refl refl (arrivals_push h (reading text) ∙ ap (λ n. cond (leb (length text) 65536) (arrivals h ++ take (1000000 - n) (frames_in text)) (arrivals h)) (sym seen)) (go (leb (length text) 65536) o)
    where
      go : (b : Bool) → MatchBool b ((r ≡ text_answer p.seen text) × Advanced O M p (taken_in p.seen text) q) ((r ≡ Err LongText) × (q ≡ p)) → After O M (O.value q.objective) q.matroid q.size.n nothing (cond b (arrivals h ++ taken_in p.seen text) (arrivals h)) q
      go true a = met_advanced (arrivals h) (taken_in p.seen text) p q k a.1
      go false a = subst (λ q. After O M (O.value q.objective) q.matroid q.size.n nothing (arrivals h) q) (sym a.1) k

  pub met_clear : (h : List Called) (p q : Picker W R) → Emptied O p q → Met O M (h ++ clearing ∷ []) q
  met_clear h p q o =
      met_none (h ++ clearing ∷ []) q (arrivals_push h clearing) o.kept o.took o.seen o.gain o.tells (O.laws q.objective).whole.submodular.nothing (λ s. o.left s ∙ sym (o.settings.value s))

  module _ (h : List Called) (p : Picker W R) (k : Met O M h p) where
    st : State Frame
    st = replay (O.value p.objective) (M.admits p.matroid) p.size.n (arrivals h)

    theorem : Promised (O.value p.objective) (M.admits p.matroid) p.size.n (arrivals h) st
    unfolding st
    theorem = promised same-frames (O.laws p.objective).whole.submodular (M.laws p.matroid) p.size.n (arrivals h)

    kept_is : held p.table ≡ st.kept
    unfolding st
    kept_is = k.kept

    accepted_is : p.took ≡ length st.accepted
    unfolding st
    accepted_is = k.took ∙ omega arith

    pub met_labelled : Labelled O M h p
    unfolding st
    met_labelled =
        let back = sym kept_is in record {
          kept = kept_is;
          accepted = accepted_is;
          admitted = ap (λ es. M.admits p.matroid (frames es)) kept_is ∙ theorem.admitted;
          arrived = subst (λ es. Choice (arrivals h) p.size.n (frames es)) back (record {
            places = theorem.drawn.0;
            drawn = theorem.drawn.1;
            few = omega (arith, theorem.few, length-map st.kept (λ e. e.0), length_drawn (arrivals h) theorem.drawn.0 (frames st.kept) theorem.drawn.1.1);
          });
          quarter = λ c d ok. subst (λ es. O.value p.objective c ≤ 4 * O.value p.objective (frames es)) back (theorem.quarter c d ok);
          few = omega (arith, accepted_is, theorem.took, ap (sum_by (λ (e : Frame × ℕ). binary_length e.1)) kept_is);
        }

    pub met_bounded : Bounded O M h p
    unfolding st
    met_bounded =
        let told_is : p.told ≡ told (O.value p.objective) st.accepted = k.tells ∙ omega arith in
        let gain_is : p.gain ≡ total st.kept = k.gain in record {
          tells = told_is ∙ theorem.tells;
          twice = omega (arith, told_is, gain_is, theorem.twice);
          earned = omega (arith, gain_is, theorem.earned, ap (λ es. O.value p.objective (frames es)) kept_is);
          most = omega (arith, accepted_is, took_few same-frames (O.laws p.objective).whole.submodular (M.laws p.matroid) p.size.n (O.laws p.objective).whole.bounded (arrivals h) st theorem);
        }

  pub promises : (p : Picker W R) → Promises O M p
  promises p h k = (met_labelled h p k, met_bounded h p k)
