use Rattle.std.proofs.Common.{◌≡◌, ◌*◌, ◌≤◌, [], ◌∷◌, length}
use Rattle.kinds.proofs.Located.{views_below}
use Rattle.facility.proofs.location.FacilityLocationObjective.gain.Given as goal

abbrev pub invariant-loop-likeness : goal.invariant-loop-likeness
invariant-loop-likeness l = record {
  so_far : l.gain ≡ views_below (λ x. x.look) l.self.table.now l.self.best (length l.yielded) (l.x ∷ []);
  low : l.gain ≤ 65535 * length l.yielded;
}
