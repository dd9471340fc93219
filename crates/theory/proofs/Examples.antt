-- The laws hold of a small case, and a replay of it computes. Assumes nothing.
use Rattle.std.proofs.Common.{◌≡◌, ℕ, suc, ◌*◌, ◌≤◌, min, Bool, true, eqb, leb, List, [], ◌∷◌, length, sum_by, refl, arith, nat_eq, nat_le}
use Rattle.std.proofs.lemmas.List.Sums.{sum_by-cons}
use Rattle.std.proofs.lemmas.Bool.{eqb-true, eq-eqb, leb-true, le-leb}
use Rattle.theory.specs.Bag.{Same, Choice}
use Rattle.theory.specs.Laws.{Submodular, MatroidLaws}
use Rattle.theory.specs.Replay.{State, frames, replay}
use Rattle.theory.specs.Promise.{gain, Promised}
use Rattle.theory.proofs.Orders.{orderless_after, orderless_sum_by, orderless_length, longer_has_more}
use Rattle.theory.proofs.Theorem.{stands}

-- a frame is a number, and the value of a bag is its sum, ten at most
abbrev total : List ℕ → ℕ
total s = min 10 (sum_by (λ x. x) s)

-- at most two frames
abbrev two : List ℕ → Bool
two s = nat_le (length s) 2

same_numbers : Same nat_eq
same_numbers = record { tells = eqb-true; self = λ x. eq-eqb x x refl }

total_laws : Submodular total
total_laws = record {
  nothing = refl;
  order = orderless_after (min 10) (sum_by (λ x. x)) (orderless_sum_by (λ x. x));
  more = λ x s. omega (arith, sum_by-cons (λ (y : ℕ). y) x s);
  falls = λ x y s. omega (arith, sum_by-cons (λ (y : ℕ). y) x (y ∷ s), sum_by-cons (λ (y : ℕ). y) x s, sum_by-cons (λ (y : ℕ). y) y s);
}

two_laws : MatroidLaws nat_eq two
two_laws = record {
  nothing = refl;
  order = orderless_after (λ k. leb k 2) length orderless_length;
  fewer = λ x s h. le-leb (length s) 2 (omega (arith, leb-true (suc (length s)) 2 h));
  exchange = λ s t hs ht l. let got = longer_has_more same_numbers s t l in (got.0, got.1, le-leb (suc (length s)) 2 (omega (arith, leb-true (length t) 2 ht)));
}

-- 1 and 2 are kept; 5 takes the place of 1; 3 adds 2 and is passed, since twice 2 is more; 9 adds 2 and is passed too
ran : replay total two 2 (1 ∷ 2 ∷ 5 ∷ 3 ∷ 9 ∷ []) ≡ record { kept = (5, 5) ∷ (2, 2) ∷ []; accepted = 5 ∷ 2 ∷ 1 ∷ [] }
ran = refl

-- the lowest of two equal places is taken
tied : replay total two 2 (1 ∷ 1 ∷ 4 ∷ []) ≡ record { kept = (4, 4) ∷ (1, 1) ∷ []; accepted = 4 ∷ 1 ∷ 1 ∷ [] }
tied = refl

small_case : (arrivals : List ℕ) → Promised total two 2 arrivals (replay total two 2 arrivals)
small_case arrivals = stands ℕ eqb total two 2 same_numbers total_laws two_laws arrivals

-- no two arrivals are worth more than four times what is kept, or than four times its gains
small_quarter : (arrivals c : List ℕ) (st : State ℕ) → Promised total two 2 arrivals st → Choice arrivals 2 c → two c ≡ true → (total c ≤ 4 * total (frames st.kept)) × (total c ≤ 4 * gain st)
small_quarter arrivals c st p h ok = (p.quarter c h ok, omega (arith, p.bound c h ok, p.twice))
