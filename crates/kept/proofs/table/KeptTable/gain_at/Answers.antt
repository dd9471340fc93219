use Rattle.std.proofs.Common.{◌≡◌, ℕ, zero, suc, List, [], ◌∷◌, Option, MatchOption, subst, rules}
use Rattle.std.specs.List.{slice_get}
use Rattle.frames.specs.declared.entry.Entry.{Entry}
use Rattle.kept.specs.Tables.{held, gain_at}
use Rattle.kept.proofs.table.KeptTable.gain_at.Goals as goal

-- n is the gain of what was found, 0 where nothing was
abbrev Found : ℕ → Option Entry → Type 0
Found n o = MatchOption o (n ≡ 0) (λ e. n ≡ e.gain)

gain_found : (es : List Entry) (p n : ℕ) → Found n (slice_get es p) → n ≡ gain_at (held es) p
gain_found [] p n h = h
gain_found (e ∷ es) zero n h = h
gain_found (e ∷ es) (suc p) n h = gain_found es p n h

pub returns : goal.returns
returns c =
    let found : Found c.map_or.result c.get.result = search rules in
    gain_found c.args.self.now c.args.place c.map_or.result (subst (Found c.map_or.result) c.get.ensures found)
