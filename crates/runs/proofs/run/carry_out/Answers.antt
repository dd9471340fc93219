use Rattle.std.proofs.Common.{sym, refl, ap, ◌∙◌, subst}
use Rattle.std.specs.Option.{ok_or}
use Rattle.std.specs.List.{slice_get}
use Rattle.frames.specs.declared.refusal.Refusal.TheVariants.{NoPlace}
use Rattle.records.specs.Sheets.{Printed as PrintedAs}
use Rattle.picker.proofs.Settings.{settings_same}
use Rattle.runs.specs.declared.call.Answer.TheVariants.{Offered, Texted, Looked, Printed}
use Rattle.runs.specs.Carried.{Carried}
use Rattle.runs.specs.Histories.{digest_after}
use Rattle.runs.specs.Runs.{called}
use Rattle.runs.proofs.Replies.{offered_same, offered_answer, texted_same, texted_answer, entries_is, digest_is, printed_answer}
use Rattle.runs.proofs.run.carry_out.Goals as goal

pub returns-in-Offer : goal.returns-in-Offer
returns-in-Offer g c =
    let p = c.args.picker.now in
    let s = c.args.sheet.now in
    let o = c.offer.ensures in
    let same = offered_same g.W.Objective g.R.Matroid p c.in-Offer.x c.offer.result c.offer.new.self o.step in
    subst (λ k. Carried g.W.Objective g.R.Matroid (called k) p s (Offered c.offer.result) c.offer.new.self s) (sym c.in-Offer.is) (record {
      settings = same;
      carries = o.carries;
      answer = λ h k. ap Offered (offered_answer g.W.Objective g.R.Matroid h p k c.in-Offer.x c.offer.result c.offer.new.self o.step);
      sheet = λ h k. refl;
    })

pub returns-in-Text : goal.returns-in-Text
returns-in-Text g c =
    let p = c.args.picker.now in
    let s = c.args.sheet.now in
    let o = c.offer_text.ensures in
    let t = c.in-Text.text.now in
    let same = texted_same g.W.Objective g.R.Matroid p t c.offer_text.result c.offer_text.new.self o.step in
    subst (λ k. Carried g.W.Objective g.R.Matroid (called k) p s (Texted c.offer_text.result) c.offer_text.new.self s) (sym c.in-Text.is) (record {
      settings = same;
      carries = o.carries;
      answer = λ h k. ap Texted (texted_answer g.W.Objective g.R.Matroid h p k t c.offer_text.result c.offer_text.new.self o.step);
      sheet = λ h k. refl;
    })

pub returns-in-Look : goal.returns-in-Look
returns-in-Look g c =
    let p = c.args.picker.now in
    let s = c.args.sheet.now in
    subst (λ k. Carried g.W.Objective g.R.Matroid (called k) p s (Looked c.look.result) p s) (sym c.in-Look.is) (record {
      settings = settings_same g.W.Objective p;
      carries = c.look.ensures.carries;
      answer = λ h k. ap Looked (c.look.ensures.value ∙ ap (λ es. ok_or (slice_get es c.in-Look.place) NoPlace) (entries_is g.W.Objective g.R.Matroid h p k));
      sheet = λ h k. refl;
    })

pub returns-in-Print : goal.returns-in-Print
returns-in-Print g c =
    let p = c.args.picker.now in
    let s = c.args.sheet.now in
    let out : (h : _) (k : _) → _ = λ h k. printed_answer (digest_after (g.W.Objective.value p.objective) (g.R.Matroid.admits p.matroid) p.size.n h) s c.print.new.out c.print.result (subst (λ d. PrintedAs d s c.print.new.out c.print.result) (digest_is g.W.Objective g.R.Matroid h p k) c.print.ensures.printed) in
    subst (λ k. Carried g.W.Objective g.R.Matroid (called k) p s (Printed c.print.result) p c.print.new.out) (sym c.in-Print.is) (record {
      settings = settings_same g.W.Objective p;
      carries = c.print.ensures.carries;
      answer = λ h k. ap Printed (out h k).0;
      sheet = λ h k. (out h k).1;
    })
