use Rattle.std.proofs.Common.{◌≡◌, ◌∷◌, map, take}
use Rattle.exchange.proofs.rows.line_up.Given as goal

abbrev pub invariant-loop-entry : goal.invariant-loop-entry
invariant-loop-entry g l = l.row.items ≡ l.fn.x ∷ map (λ e. e.frame) (take l.entry-index l.entry-items)
