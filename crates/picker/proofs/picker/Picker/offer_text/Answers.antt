use Rattle.std.proofs.Common.{◌≡◌, ℕ, ◌+◌, List, drop, Some, None, Ok, Err, Option, Result, sym, refl, ap, ◌∙◌, subst, ap₂, rules}
use Rattle.std.proofs.lemmas.Result.{err_from_is_err_and}
use Rattle.frames.specs.declared.frame.Frame.{Frame}
use Rattle.faults.specs.declared.fault.RecordFault.{RecordFault}
use Rattle.faults.specs.declared.fault.RecordFault.TheVariants.{ShiftFull}
use Rattle.faults.specs.declared.fault.TextFault.TheVariants.{Record, LongText}
use Rattle.parsing.specs.Records.{Stands}
use Rattle.reading.specs.Texts.{NextRead}
use Rattle.records.proofs.Roundtrip.{record_shown}
use Rattle.picker.specs.Texts.{TextOffered}
use Rattle.picker.proofs.Labels.{met_text}
use Rattle.picker.proofs.Texts.{SoFar, Done, recorded_ok, recorded_err, so_far_none, so_far_more, done_ended, done_refused, done_full, text_offered}
use Rattle.picker.proofs.picker.Picker.offer_text.Goals as goal

pub loop-x-init : goal.loop-x-init
loop-x-init g c =
    let r = c.new-records.result in
    let p = c.args.self.now in
    let made = c.new-records.ensures in
    let none = so_far_none g.W.Objective g.R.Matroid p r.text.now in (
      refl,
      subst (λ at. SoFar g.W.Objective g.R.Matroid p r.text.now at r.count p) (sym made.start)
          (subst (λ n. SoFar g.W.Objective g.R.Matroid p r.text.now 0 n p) (sym made.count) none),
    )

pub returns-in_err-x : goal.returns-in_err-x
returns-in_err-x g c =
    let p = c.args.self.now in
    let rs = c.loop-x.records in
    let t = c.new-records.result.text.now in
    let f = c.in_err-x.field-0.0 in
    let at-t : NextRead t rs.at rs.count c.next.new.self.at c.next.new.self.count (Err f) = subst (λ t. NextRead t rs.at rs.count c.next.new.self.at c.next.new.self.count (Err f)) c.loop-x.invariant.0 c.in_err-x.ensures.cases in
    let out = err_from_is_err_and c.from_residual.result c.from_residual.ensures.1 in
    let step =
    text_offered g.W.Objective g.R.Matroid p t c.args.text.now _ _ c.loop-x.self c.new-records.ensures.text (out.1 ∙ ap Err out.2) c.if-text-gt-LONGEST_TEXT.false
    (done_refused g.W.Objective g.R.Matroid p t rs.at rs.count c.loop-x.self c.loop-x.invariant.1 f at-t.0 at-t.1) in
    record { step = step; carries = λ h k. met_text g.W.Objective g.R.Matroid h p c.args.text.now _ _ step k }

pub returns-in_default : goal.returns-in_default
returns-in_default g c =
    let p = c.args.self.now in
    let rs = c.loop-x.records in
    let t = c.new-records.result.text.now in
    let n = c.next.new.self in
    let was : c.next.result ≡ Ok None = c.in_ok-x.was ∙ ap Ok c.in_default.is in
    let at-t : NextRead t rs.at rs.count n.at n.count (Ok None) = subst (λ t. NextRead t rs.at rs.count n.at n.count (Ok None)) c.loop-x.invariant.0 (subst (NextRead rs.text.now rs.at rs.count n.at n.count) was c.next.ensures.cases) in
    let step =
    text_offered g.W.Objective g.R.Matroid p t c.args.text.now _ _ c.loop-x.self c.new-records.ensures.text (ap Ok (c.count.ensures ∙ at-t.2)) c.if-text-gt-LONGEST_TEXT.false
    (done_ended g.W.Objective g.R.Matroid p t rs.at rs.count c.loop-x.self c.loop-x.invariant.1 at-t.0) in
    record { step = step; carries = λ h k. met_text g.W.Objective g.R.Matroid h p c.args.text.now _ _ step k }

-- the record that was read, in the text as it was given
standing : (t u : List ℕ) (at count at' count' : ℕ) (r : Result (Option Frame) RecordFault) (o : Option Frame) (x : Frame) → t ≡ u → r ≡ Ok o → o ≡ Some x → NextRead t at count at' count' r → Stands u at x at' × (count' ≡ count + 1)
standing t u at count at' count' r o x e k l h = subst (λ t. NextRead t at count at' count' (Ok (Some x))) e (subst (NextRead t at count at' count') (k ∙ ap Ok l) h)

pub invariant_of-take_record : goal.invariant_of-take_record
invariant_of-take_record g c =
    let rs = c.loop-x.records in
    let n = c.next.new.self in
    let here = standing rs.text.now rs.text.now rs.at rs.count n.at n.count c.next.result c.in_ok-x.field-0 c.in-Some.x refl c.in_ok-x.was c.in-Some.is c.next.ensures.cases in
    record { range = (record_shown (drop rs.at rs.text.now) c.in-Some.x (drop n.at rs.text.now) here.0.reads).0 }

pub loop-x-preserved : goal.loop-x-preserved
loop-x-preserved g c =
    let p = c.args.self.now in
    let rs = c.loop-x.records in
    let n = c.next.new.self in
    let t = c.new-records.result.text.now in
    let here = standing rs.text.now t rs.at rs.count n.at n.count c.next.result c.in_ok-x.field-0 c.in-Some.x c.loop-x.invariant.0 c.in_ok-x.was c.in-Some.is c.next.ensures.cases in (
      c.next.ensures.text ∙ c.loop-x.invariant.0,
      so_far_more g.W.Objective g.R.Matroid p t rs.at rs.count c.loop-x.self c.loop-x.invariant.1 c.in-Some.x n.at n.count c.take_record.new.self here.0 here.1
          (recorded_ok g.W.Objective g.R.Matroid c.loop-x.self c.in-Some.x c.count-in-loop-x.result c.start-start.result c.take_record.new.self _ c.in_ok-take_record.ensures),
    )

pub returns-in_err-take_record : goal.returns-in_err-take_record
returns-in_err-take_record g c =
    let p = c.args.self.now in
    let rs = c.loop-x.records in
    let n = c.next.new.self in
    let t = c.new-records.result.text.now in
    let here = standing rs.text.now t rs.at rs.count n.at n.count c.next.result c.in_ok-x.field-0 c.in-Some.x c.loop-x.invariant.0 c.in_ok-x.was c.in-Some.is c.next.ensures.cases in
    let h = recorded_err g.W.Objective g.R.Matroid c.loop-x.self c.in-Some.x c.count-in-loop-x.result c.start-start.result c.take_record.new.self c.in_err-take_record.field-0.0 c.in_err-take_record.ensures in
    let out = err_from_is_err_and c.from_residual-in_err-take_record.result c.from_residual-in_err-take_record.ensures.1 in
    let fault : c.from_residual-in_err-take_record.result ≡ Err (Record (ShiftFull (rs.count + 1) rs.at)) =
    out.1 ∙ ap Err out.2 ∙ ap (λ f. Err (Record f)) h.1 ∙ ap₂ (λ n at. Err (Record (ShiftFull n at))) (c.count-in-loop-x.ensures ∙ here.1) c.start-start.ensures in
    let step =
    text_offered g.W.Objective g.R.Matroid p t c.args.text.now _ _ c.take_record.new.self c.new-records.ensures.text fault c.if-text-gt-LONGEST_TEXT.false
    (subst (Done g.W.Objective g.R.Matroid p t (Err (Record (ShiftFull (rs.count + 1) rs.at)))) (sym h.2)
    (done_full g.W.Objective g.R.Matroid p t rs.at rs.count c.loop-x.self c.loop-x.invariant.1 c.in-Some.x n.at here.0 h.0)) in
    record { step = step; carries = λ h k. met_text g.W.Objective g.R.Matroid h p c.args.text.now _ _ step k }

pub returns-then-text-gt-LONGEST_TEXT-clause-carries : goal.returns-then-text-gt-LONGEST_TEXT-clause-carries
returns-then-text-gt-LONGEST_TEXT-clause-carries g c =
    let p = c.args.self.now in
    let step : TextOffered g.W.Objective g.R.Matroid p c.args.text.now (Err LongText) p = search rules in
    λ h k. met_text g.W.Objective g.R.Matroid h p c.args.text.now _ _ step k
