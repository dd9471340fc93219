use Rattle.std.proofs.Common.{ℕ, ◌≤◌, List, get_or, sym, subst, arith}
use Rattle.frames.proofs.Settings.{low_bytes_same}
use Rattle.kinds.proofs.Objectives.{get_or_le}
use Rattle.matroids.proofs.partition.PartitionMatroid.new.Goals as goal

pub invariant_of-result : goal.invariant_of-result
invariant_of-result c =
    let low : (i : ℕ) → get_or c.args.caps.now i 0 ≤ 48 = λ i. get_or_le 48 c.args.caps.now i c.in_ok-check_numbers.ensures.accepted.1 in
    let same = low_bytes_same c.low_bytes.result c.args.caps.now 64 (omega arith) c.in_ok-check_numbers.ensures.accepted.0 (λ i. omega (arith, low i)) c.low_bytes.ensures in
    (omega arith, subst (λ (ns : List ℕ). (i : ℕ) → get_or ns i 0 ≤ 48) (sym same) low)

pub returns : goal.returns
returns c =
    let low : (i : ℕ) → get_or c.args.caps.now i 0 ≤ 48 = λ i. get_or_le 48 c.args.caps.now i c.in_ok-check_numbers.ensures.accepted.1 in
    let same = low_bytes_same c.low_bytes.result c.args.caps.now 64 (omega arith) c.in_ok-check_numbers.ensures.accepted.0 (λ i. omega (arith, low i)) c.low_bytes.ensures in
    record {
      fault = c.in_ok-check_numbers.ensures.fault;
      accepted = same;
      fits = (omega arith, subst (λ (ns : List ℕ). (i : ℕ) → get_or ns i 0 ≤ 48) (sym same) low);
    }
