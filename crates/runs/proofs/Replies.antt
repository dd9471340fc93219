-- What a picker answers, by the calls that led to it. Assumes nothing.
use Rattle.std.proofs.Common.{◌≡◌, ℕ, ◌-◌, Bool, true, false, cond, leb, List, [], ◌∷◌, map, length, Some, None, Ok, Err, MatchBool, Option, Result, sym, refl, ap, ◌∙◌, subst, ap₂, arith}
use Rattle.theory.specs.Promise.{told}
use Rattle.theory.specs.Replay.{gain_of}
use Rattle.theory.proofs.Later.{parts_swap}
use Rattle.frames.specs.declared.entry.Entry.{Entry}
use Rattle.frames.specs.declared.frame.Frame.{Frame}
use Rattle.frames.specs.declared.refusal.Refusal.{Refusal}
use Rattle.frames.specs.declared.refusal.Refusal.TheVariants.{ShortSheet}
use Rattle.faults.specs.declared.fault.TextFault.{TextFault}
use Rattle.faults.specs.declared.fault.TextFault.TheVariants.{LongText}
use Rattle.records.specs.Sheets.{over, Printed}
use Rattle.report.specs.declared.counts.Counts.{Counts}
use Rattle.report.specs.Digest.{digest}
use Rattle.exchange.specs.declared.outcome.Outcome.{Outcome}
use Rattle.exchange.specs.Outcomes.{outcome_of}
use Rattle.kept.specs.Tables.{held}
use Rattle.picker.specs.declared.picker.Picker.{Picker}
use Rattle.picker.specs.Calls.{Called, arrivals}
use Rattle.picker.specs.Counted.{counts_of}
use Rattle.picker.specs.Met.{Met}
use Rattle.picker.specs.Offers.{Advanced, Answered, Offered, SameSettings, refusal_of, verdict}
use Rattle.picker.specs.Texts.{taken_in, text_answer, TextOffered}
use Rattle.picker.proofs.Settings.{settings_same}
use Rattle.runs.specs.Histories.{entry_of, after, counts_after, entries_after, digest_after}
use Rattle.runs.specs.Runs.{offer_answer}
use Rattle.objectives.specs.declared.objective.Objective.{Ghosts as Objective}
use Rattle.matroids.specs.declared.matroid.Matroid.{Ghosts as Matroid}

entries_back : (es : List Entry) → map entry_of (held es) ≡ es
entries_back [] = refl
entries_back (e ∷ es) = ap (λ (t : List Entry). e ∷ t) (entries_back es)

-- a print-out, as an answer and a sheet
pub printed_answer : (t before behind : List ℕ) (r : Result ℕ Refusal) → Printed t before behind r → (r ≡ cond (leb (length t) (length before)) (Ok (length t)) (Err ShortSheet)) × (behind ≡ cond (leb (length t) (length before)) (over t before) before)
printed_answer t before behind r h = go (leb (length t) (length before)) h
  where
    go : (b : Bool) → MatchBool b ((r ≡ Ok (length t)) × (behind ≡ over t before)) ((r ≡ Err ShortSheet) × (behind ≡ before)) → (r ≡ cond b (Ok (length t)) (Err ShortSheet)) × (behind ≡ cond b (over t before) before)
    go true a = a
    go false a = a

module _ {W R : Type 0} (O : Objective W) (M : Matroid R) where
  -- what an offer leaves as it was
  pub offered_same : (p : Picker W R) (x : Frame) (r : Result Outcome Refusal) (q : Picker W R) → Offered O M p x r q → SameSettings O p q
  offered_same p x r q o = go (refusal_of x p.seen) o
    where
      go : (e : Option Refusal) → Answered O M p x r q e → SameSettings O p q
      go None a = record { size = a.1.stands.size; matroid = a.1.stands.matroid; value = a.1.whole }
      go (Some e) a = subst (SameSettings O p) (sym a.1) (settings_same O p)

  pub texted_same : (p : Picker W R) (t : List ℕ) (r : Result ℕ TextFault) (q : Picker W R) → TextOffered O M p t r q → SameSettings O p q
  texted_same p t r q o = go (leb (length t) 65536) o
    where
      go : (b : Bool) → MatchBool b ((r ≡ text_answer p.seen t) × Advanced O M p (taken_in p.seen t) q) ((r ≡ Err LongText) × (q ≡ p)) → SameSettings O p q
      go true a = record { size = a.1.stands.size; matroid = a.1.stands.matroid; value = a.1.whole }
      go false a = subst (SameSettings O p) (sym a.1) (settings_same O p)

  module _ (h : List Called) (p : Picker W R) (k : Met O M h p) where
    seen_is : p.seen ≡ length (arrivals h)
    seen_is = k.seen ∙ omega arith

    gain_is : (x : Frame) → O.residual p.objective (x ∷ []) ≡ gain_of (O.value p.objective) (after (O.value p.objective) (M.admits p.matroid) p.size.n h) x
    gain_is x =
        let a = (after (O.value p.objective) (M.admits p.matroid) p.size.n h).accepted in
        k.left (x ∷ []) ∙ ap (λ v. v - O.value p.objective a) (parts_swap (O.value p.objective) (O.laws p.objective).whole.submodular.order a (x ∷ []))

    pub offered_answer : (x : Frame) (r : Result Outcome Refusal) (q : Picker W R) → Offered O M p x r q → r ≡ offer_answer (refusal_of x (length (arrivals h))) (outcome_of (M.admits p.matroid) p.size.n (after (O.value p.objective) (M.admits p.matroid) p.size.n h).kept x (gain_of (O.value p.objective) (after (O.value p.objective) (M.admits p.matroid) p.size.n h) x))
    offered_answer x r q o =
        go (refusal_of x p.seen) o
        ∙ ap₂ (λ s o. offer_answer (refusal_of x s) o) seen_is (ap₂ (λ es g. outcome_of (M.admits p.matroid) p.size.n es x g) k.kept (gain_is x))
      where
        go : (e : Option Refusal) → Answered O M p x r q e → r ≡ offer_answer e (verdict O M p x)
        go None a = a.0
        go (Some e) a = a.0

    pub texted_answer : (t : List ℕ) (r : Result ℕ TextFault) (q : Picker W R) → TextOffered O M p t r q → r ≡ cond (leb (length t) 65536) (text_answer (length (arrivals h)) t) (Err LongText)
    texted_answer t r q o = go (leb (length t) 65536) o ∙ ap (λ s. cond (leb (length t) 65536) (text_answer s t) (Err LongText)) seen_is
      where
        go : (b : Bool) → MatchBool b ((r ≡ text_answer p.seen t) × Advanced O M p (taken_in p.seen t) q) ((r ≡ Err LongText) × (q ≡ p)) → r ≡ cond b (text_answer p.seen t) (Err LongText)
        go true a = a.0
        go false a = a.0

    pub entries_is : p.table ≡ entries_after (O.value p.objective) (M.admits p.matroid) p.size.n h
    entries_is = sym (entries_back p.table) ∙ ap (map entry_of) k.kept

    pub counts_is : counts_of p ≡ counts_after (O.value p.objective) (M.admits p.matroid) p.size.n h
    counts_is =
        let f = O.value p.objective in
        let st = after f (M.admits p.matroid) p.size.n h in
        let made : ℕ → ℕ → ℕ → ℕ → ℕ → Counts = λ l t s g d. record { size = p.size.n; kept = l; took = t; seen = s; gain = g; told = d } in
        let took-is : p.took ≡ length st.accepted = k.took ∙ omega arith in
        let told_is : p.told ≡ told f st.accepted = k.tells ∙ omega arith in
        ap (λ (es : List (Frame × ℕ)). made (length es) p.took p.seen p.gain p.told) k.kept
        ∙ ap₂ (λ t s. made (length st.kept) t s p.gain p.told) took-is seen_is
        ∙ ap₂ (λ g d. made (length st.kept) (length st.accepted) (length (arrivals h)) g d) k.gain told_is

    pub digest_is : digest (counts_of p) p.table ≡ digest_after (O.value p.objective) (M.admits p.matroid) p.size.n h
    unfolding digest_after
    digest_is = ap₂ digest counts_is entries_is
