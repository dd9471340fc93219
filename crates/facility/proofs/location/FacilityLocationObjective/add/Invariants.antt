use Rattle.std.proofs.Common.{◌≡◌, ℕ, ◌<◌, ◌≤◌, max, length, slice_index}
use Rattle.facility.proofs.location.FacilityLocationObjective.add.Given as goal

abbrev pub invariant-loop-v : goal.invariant-loop-v
invariant-loop-v l = record {
  full : length l.best-items ≡ 64;
  raised : (k : ℕ) → k < l.v → slice_index l.best-items k ≡ max (slice_index l.initial.best-items k) (slice_index l.row k);
  rest : (k : ℕ) → l.v ≤ k → slice_index l.best-items k ≡ slice_index l.initial.best-items k;
}
