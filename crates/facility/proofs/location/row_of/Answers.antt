use Rattle.std.proofs.Common.{◌≡◌, ℕ, ◌+◌, ◌-◌, ◌*◌, min, List, length, take, drop, slice_index, ap, ◌∙◌, arith, length-drop}
use Rattle.std.proofs.lemmas.List.{drop_min, take_min, get_or-take, get_or-drop}
use Rattle.facility.proofs.location.row_of.Goals as goal

-- at most n places from k on, as far as there are so many
clipped : (k n : ℕ) (xs : List ℕ) → take (min (min k (length xs) + n) (length xs) - min k (length xs)) (drop (min k (length xs)) xs) ≡ take n (drop k xs)
clipped k n xs =
    let long : min (min k (length xs) + n) (length xs) - min k (length xs) ≡ min n (length (drop k xs)) = omega (arith, length-drop k xs) in
    rw (long, drop_min) (take_min n (drop k xs))

pub returns : goal.returns
returns c v l =
    let table = c.args.table.now in
    let k = 64 * c.args.look in
    let start : c.min-start.result ≡ min k (length table) = omega arith in
    let end : c.min-end.result ≡ min (min k (length table) + 64) (length table) = omega arith in
    let row : take (c.min-end.result - c.min-start.result) (drop c.min-start.result table) ≡ take 64 (drop k table) = rw (end, start) (clipped k 64 table) in
    let at = ap (λ r. slice_index r v) row ∙ get_or-take 64 (drop k table) v 0 l ∙ get_or-drop k table v 0 in
    omega (arith, at, c.type_inv.table (k + v))
