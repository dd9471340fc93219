use Rattle.std.proofs.Common.{arith}
use Rattle.picker.proofs.Entries.{pushed}
use Rattle.picker.proofs.picker.Picker.keep.Goals as goal

pub invariant_of-self : goal.invariant_of-self
invariant_of-self g c =
    let p = c.args.self.now in
    let kept = pushed c.args.arrival.frame c.args.gain c.args.arrival.range (omega (arith, c.ranges.gain.fits)) p.table c.push.new.self p.kept (omega (arith, c.requires.room, p.size.high)) c.push.ensures.after in
    record {
      room = omega (arith, c.requires.room, kept.0);
      kept = kept.1;
      taken = omega (arith, c.requires.seen);
      bound = p.bound;
      gains = omega (arith, p.gains, c.from.ensures, kept.2);
      less = omega (arith, p.less, c.from.ensures, c.from-2.ensures);
      most = omega (arith, p.most, c.from-2.ensures);
    }
