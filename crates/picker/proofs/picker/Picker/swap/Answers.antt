use Rattle.std.proofs.Common.{◌+◌, refl, ap, arith, rules}
use Rattle.kept.specs.Tables.{held}
use Rattle.picker.proofs.Entries.{held-set, total-set, replaced}
use Rattle.picker.proofs.picker.Picker.swap.Goals as goal

pub overflow_sub-self : goal.overflow_sub-self
overflow_sub-self g c =
    let p = c.args.self.now in
    omega (arith, p.gains, c.gain_at-was.ensures, c.from-2.ensures, (total-set (held p.table) c.args.newcomer.frame c.args.gain c.args.place c.requires.place).0)

pub invariant_of-self : goal.invariant_of-self
invariant_of-self g c =
    let p = c.args.self.now in
    let kept = replaced c.args.newcomer.frame c.args.gain c.args.newcomer.range (omega (arith, c.ranges.gain.fits)) p.table c.replace.new.self p.kept c.args.place c.requires.place c.replace.ensures in
    record {
      room = omega (arith, p.room, kept.0);
      kept = kept.1;
      taken = omega (arith, c.requires.seen);
      bound = p.bound;
      gains = omega (arith, p.gains, c.gain_at-was.ensures, c.from-2.ensures, c.from-3.ensures, kept.2, kept.3);
      less = omega (arith, p.less, c.from-3.ensures, c.from.ensures);
      most = omega (arith, p.most, c.from.ensures);
    }

pub returns : goal.returns
returns g c =
    let p = c.args.self.now in
    let moved = total-set (held p.table) c.args.newcomer.frame c.args.gain c.args.place c.requires.place in
    record {
      kept = held-set p.table c.replace.new.self c.args.newcomer.frame c.args.gain c.args.place c.replace.ensures;
      took = refl;
      seen = refl;
      gain = omega (arith, p.gains, c.gain_at-was.ensures, c.from-2.ensures, c.from-3.ensures, moved.0, moved.1);
      tells = ap (λ n. p.told + n) c.from.ensures;
      settings = record { size = refl; matroid = refl; value = search rules };
      left = search rules;
    }
