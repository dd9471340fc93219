use Rattle.std.proofs.Common.{subst}
use Rattle.report.specs.Digest.{ReadsBack}
use Rattle.picker.specs.Counted.{counts_of}
use Rattle.picker.proofs.Entries.{sound_at}
use Rattle.picker.proofs.picker.Picker.print.Goals as goal

pub returns-clause-reads_back : goal.returns-clause-reads_back
returns-clause-reads_back g c =
    let p = c.args.self.now in
    let back = subst (λ es. ReadsBack (counts_of p) es) c.entries.ensures.value (subst (λ n. ReadsBack n c.entries.result.now) c.counts.ensures.value c.print_digest.ensures.reads_back) in
    λ i d l. let ok = sound_at p.table i d p.kept l in back i d l ok.1 ok.0
