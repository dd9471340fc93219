-- The first line feed of a text, as the place that a search for it answers.
use Rattle.std.proofs.Common.{◌≡◌, ℕ, ◌<◌, ◌≤◌, not, cond, eqb, ltb, List, length, Some, None, Option, refl, sym, ◌∙◌, subst, ⊎_elim, arith}
use Rattle.std.proofs.lemmas.List.Sums.{prefix_len-le-length}
use Rattle.std.proofs.lemmas.Bool.{lt-ltb, le-ltb, cond-true, cond-false, cases_lt}
use Rattle.records.specs.Reading.{before_feed, Fed}

pub fed_by_place : (s : List ℕ) (r : Option ℕ) → r ≡ cond (ltb (before_feed s) (length s)) (Some (before_feed s)) None → Fed s r
fed_by_place s r e =
    let n = before_feed s in
    ⊎_elim
    (λ (h : n < length s). subst (Fed s) (sym (e ∙ cond-true _ _ _ (lt-ltb n (length s) h))) (refl, h))
    (λ (h : length s ≤ n).
    subst (Fed s) (sym (e ∙ cond-false _ _ _ (le-ltb n (length s) h))) (omega (arith, h, prefix_len-le-length (λ c. not (eqb c 10)) s)))
    (cases_lt n (length s))
