use Rattle.std.proofs.Common.{◌≡◌, ℕ, ◌≤◌, List, length, get_or, sym, subst}
use Rattle.std.specs.Prelude.{MatchResult, ◌≢◌}
use Rattle.std.specs.Array.{IsWholeChunk}
use Rattle.kinds.proofs.Objectives.{get_or_le}
use Rattle.objectives.proofs.coverage.Coverage.new.Goals as goal

pub invariant_of-result : goal.invariant_of-result
invariant_of-result c =
    let whole = subst (λ r. MatchResult r (λ ns. IsWholeChunk c.args.weights.now ns 64) (λ _. length c.args.weights.now ≢ 64)) c.unwrap.ensures c.try_into.ensures.1 in
    let low : (i : ℕ) → get_or c.args.weights.now i 0 ≤ 67108863 = λ i. get_or_le 67108863 c.args.weights.now i c.in_ok-check_numbers.ensures.accepted.1 in
    record { count = subst (λ (ns : List ℕ). length ns ≡ 64) (sym whole.same) whole.long; limit = subst (λ (ns : List ℕ). (i : ℕ) → get_or ns i 0 ≤ 67108863) (sym whole.same) low }
