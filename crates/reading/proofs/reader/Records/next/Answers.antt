use Rattle.std.proofs.Common.{Ok, None, refl, arith}
use Rattle.std.proofs.lemmas.List.{drop_all}
use Rattle.reading.specs.Texts.{NextRead}
use Rattle.reading.proofs.Turns.{next_by_text, next_refused}
use Rattle.reading.proofs.reader.Records.next.Goals as goal

pub returns-then-self-clause-exact : goal.returns-then-self-clause-exact
returns-then-self-clause-exact c =
    let s = c.args.self.now in
    next_by_text s.text.now s.at s.count s.at s.count (Ok None) (drop_all s.at s.text.now (omega arith), refl, refl)

refused : (c : goal.After-from_residual) → NextRead c.args.self.now.text.now c.args.self.now.at c.args.self.now.count c.args.self.now.at c.args.self.now.count c.from_residual.result
refused c =
    let s = c.args.self.now in
    next_refused s.text.now s.at s.count c.from_residual.result c.in_err-frame.field-0.0 (omega arith) c.in_err-frame.ensures.reads c.from_residual.ensures.1

pub returns-in_err-frame-clause-cases : goal.returns-in_err-frame-clause-cases
returns-in_err-frame-clause-cases c = refused c

pub returns-in_err-frame-clause-exact : goal.returns-in_err-frame-clause-exact
returns-in_err-frame-clause-exact c =
    let s = c.args.self.now in
    next_by_text s.text.now s.at s.count s.at s.count c.from_residual.result (refused c)
