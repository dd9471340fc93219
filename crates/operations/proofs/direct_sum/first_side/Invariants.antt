use Rattle.std.proofs.Common.{◌≡◌, eqb, take}
use Rattle.operations.specs.Masks.{mask_of}
use Rattle.operations.proofs.direct_sum.first_side.Given as goal

abbrev pub invariant-loop-i : goal.invariant-loop-i
invariant-loop-i l = l.mask ≡ mask_of (λ x. eqb x.side 0) (take l.i l.first)
