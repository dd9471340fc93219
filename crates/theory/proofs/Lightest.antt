-- `lightest` finds the place that counts and has the least gain, the lowest on a tie. Assumes nothing.
use Rattle.std.proofs.Common.{◌≡◌, ℕ, zero, suc, Bool, true, false, leb, List, [], ◌∷◌, get_or, Some, None, Option, refl, arith, if◌then◌else◌, nat_le, slice_index}
use Rattle.std.proofs.lemmas.Bool.{leb-true, leb-false, both_ways}
use Rattle.theory.specs.Lightest.{LightestIs}
use Rattle.theory.specs.Replay.{lighter, lightest}

pub lightest_is : (counts : ℕ → Bool) (gs : List ℕ) → LightestIs counts gs (lightest counts gs)
lightest_is counts [] = λ q h c. omega arith
lightest_is counts (g ∷ gs) = go (counts 0) refl (lightest (λ p. counts (suc p)) gs) (lightest_is (λ p. counts (suc p)) gs)
  where
    go_here : (q : ℕ) (b : Bool) → nat_le g (slice_index gs q) ≡ b → counts 0 ≡ true → LightestIs (λ p. counts (suc p)) gs (Some q) → LightestIs counts (g ∷ gs) (if b then Some 0 else Some (suc q))
    go_here q true l e ih = (omega arith, e, elim [ zero ↦ λ h c. omega arith | suc r ↦ λ h c. omega (arith, leb-true g (get_or gs q 0) l, ih.2 r (omega arith) c) ], λ r h. absurd (omega arith))
    go_here q false l e ih = (omega (arith, ih.0), ih.1, elim [ zero ↦ λ h c. omega (arith, leb-false g (get_or gs q 0) l) | suc r ↦ λ h c. ih.2 r (omega arith) c ], elim [ zero ↦ λ h c. leb-false g (get_or gs q 0) l | suc r ↦ λ h c. ih.3 r (omega arith) c ])

    go : (b : Bool) → counts 0 ≡ b → (o : Option ℕ) → LightestIs (λ p. counts (suc p)) gs o → LightestIs counts (g ∷ gs) (lighter b g gs o)
    go true e None ih = (omega arith, e, elim [ zero ↦ λ h c. omega arith | suc r ↦ λ h c. absurd (ih r (omega arith) c) ], λ r h. absurd (omega arith))
    go false e None ih = elim [ zero ↦ λ h c. both_ways (counts 0) e c | suc r ↦ λ h c. ih r (omega arith) c ]
    go true e (Some q) ih = go_here q (leb g (get_or gs q 0)) refl e ih
    go false e (Some q) ih = (omega (arith, ih.0), ih.1, elim [ zero ↦ λ h c. absurd (both_ways (counts 0) e c) | suc r ↦ λ h c. ih.2 r (omega arith) c ], elim [ zero ↦ λ h c. absurd (both_ways (counts 0) e c) | suc r ↦ λ h c. ih.3 r (omega arith) c ])
