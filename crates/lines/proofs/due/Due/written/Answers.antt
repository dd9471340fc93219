use Rattle.std.proofs.Common.{sym, subst}
use Rattle.records.specs.declared.key.Key.{Key}
use Rattle.records.specs.Format.{longest}
use Rattle.records.specs.Reading.{base_of, form_of}
use Rattle.lines.specs.Lines.{Fronted}
use Rattle.lines.proofs.due.Due.written.Goals as goal

pub returns-in-Marks : goal.returns-in-Marks
returns-in-Marks c = subst (λ (k : Key). Fronted (form_of k) (base_of k) (longest k) c.args.rest.now c.hexadecimal.result) (sym c.in-Marks.is) c.hexadecimal.ensures
