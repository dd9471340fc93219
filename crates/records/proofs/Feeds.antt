-- The first line feed of a text.
use Rattle.std.proofs.Common.{◌≡◌, ℕ, ◌+◌, ◌<◌, min, ◌==◌, List, ◌∷◌, ◌++◌, length, get_or, take, drop, sym, ◌∙◌, arith}
use Rattle.std.proofs.lemmas.Bool.{eqb-true}
use Rattle.std.proofs.lemmas.List.Sums.{passes_at_first}
use Rattle.std.proofs.lemmas.List.{drop_more, take-append-drop, get_or-take, length-take}
use Rattle.records.specs.Reading.{before_feed}

-- a line feed stands where it was found
pub feed_at : (s : List ℕ) → before_feed s < length s → get_or s (before_feed s) 0 ≡ 10
feed_at s h = eqb-true _ 10 (passes_at_first (λ c. c == 10) s 0 h)

-- the value, the line feed, and the text behind it
pub feed_splits : (most : ℕ) (s : List ℕ) → before_feed (take most s) < length (take most s) → s ≡ take (before_feed (take most s)) s ++ (10 ∷ drop (before_feed (take most s) + 1) s)
feed_splits most s h =
    let n = before_feed (take most s) in
    let m : n < min most (length s) = rw length-take at h in
    let e : get_or s n 0 ≡ 10 = sym (get_or-take most s n 0 (omega (arith, m))) ∙ feed_at (take most s) h in
    let d = drop_more s n 0 (omega (arith, m)) in
    let t = take-append-drop n s in
    cc
