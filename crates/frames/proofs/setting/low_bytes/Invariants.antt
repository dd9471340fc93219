use Rattle.std.proofs.Common.{◌≡◌, ℕ, ◌<◌, ◌%◌, length, slice_index}
use Rattle.frames.proofs.setting.low_bytes.Given as goal

abbrev pub invariant-loop-i : goal.invariant-loop-i
invariant-loop-i g l = record {
  full : length l.byte-items ≡ g.row.N;
  low : (k : ℕ) → k < l.i → slice_index l.byte-items k ≡ slice_index l.numbers k % 256;
}
