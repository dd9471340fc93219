use Rattle.std.proofs.Common.{◌≡◌, ◌-◌, ◌^◌, ◌<◌, min, ap, ◌∙◌, arith}
use Rattle.std.proofs.lemmas.Nat.{one_shl, pow_below}
use Rattle.exchange.proofs.rows.all_but.Goals as goal

pub overflow_sub-result : goal.overflow_sub-result
overflow_sub-result c =
    let h : c.args.p < 64 = omega (arith, c.requires.n, c.requires.p) in
    let few : min c.args.n 64 ≡ c.args.n = omega (arith, c.requires.n) in
    let set = c.places_below.ensures ∙ ap (λ n. 2 ^ n - 1) few in
    omega (arith, one_shl c.args.p 64 h, pow_below c.args.p c.args.n c.requires.p, set)
