use Rattle.std.proofs.Common.{◌≡◌, ℕ, ◌≤◌, true, List, get_or, sym, subst, arith}
use Rattle.frames.proofs.Settings.{low_bytes_same}
use Rattle.kinds.specs.Matroids.{parent_of, may_hold}
use Rattle.kinds.proofs.Lanes.{parents_from}
use Rattle.laminar.proofs.Trees.{parents_low}
use Rattle.laminar.proofs.laminar.LaminarMatroid.new.Goals as goal

pub invariant_of-result : goal.invariant_of-result
invariant_of-result c =
    let got = c.in_ok-check_tree.ensures.accepted in
    let caps = low_bytes_same c.low_bytes.result c.args.caps.now 96 (omega arith) got.count (λ i. omega (arith, got.limit i)) c.low_bytes.ensures in
    let parents = low_bytes_same c.low_bytes-2.result c.args.parents.now 96 (omega arith) got.paired (parents_low c.args.parents.now (parents_from c.args.parents.now got.paired got.tree)) c.low_bytes-2.ensures in
    let low = subst (λ (ns : List ℕ). (i : ℕ) → get_or ns i 0 ≤ 48) (sym caps) got.limit in
    let tree = subst (λ (ns : List ℕ). (b : ℕ) → may_hold b (parent_of ns b) ≡ true) (sym parents) got.tree in
    record { count = omega arith; paired = omega arith; limit = low; tree = tree }

pub returns : goal.returns
returns c =
    let got = c.in_ok-check_tree.ensures.accepted in
    let caps = low_bytes_same c.low_bytes.result c.args.caps.now 96 (omega arith) got.count (λ i. omega (arith, got.limit i)) c.low_bytes.ensures in
    let parents = low_bytes_same c.low_bytes-2.result c.args.parents.now 96 (omega arith) got.paired (parents_low c.args.parents.now (parents_from c.args.parents.now got.paired got.tree)) c.low_bytes-2.ensures in
    record { fault = c.in_ok-check_tree.ensures.fault; accepted = (caps, parents) }
