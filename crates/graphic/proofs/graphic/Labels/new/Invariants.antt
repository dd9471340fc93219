use Rattle.std.proofs.Common.{◌≡◌, ℕ, ◌<◌, length, slice_index}
use Rattle.graphic.proofs.graphic.Labels.new.Given as goal

abbrev pub invariant-loop-i : goal.invariant-loop-i
invariant-loop-i l = record {
  full : length l.label-items ≡ 256;
  own : (k : ℕ) → k < l.i → slice_index l.label-items k ≡ k;
}
