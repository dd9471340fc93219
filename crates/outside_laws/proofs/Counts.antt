-- The laws of the count up to a cap, and of the lists of at most so many frames. Assumes nothing.
use Rattle.std.proofs.Common.{◌≡◌, ℕ, suc, ◌-◌, ◌≤◌, min, Bool, leb, List, [], ◌∷◌, length, arith}
use Rattle.std.proofs.lemmas.Bool.{leb-true, le-leb}
use Rattle.theory.specs.Bag.{Same}
use Rattle.theory.specs.Laws.{Lawful, MatroidLaws}
use Rattle.theory.proofs.Orders.{orderless_after, orderless_length, longer_has_more}
use Rattle.outside_laws.specs.Counts.{count_up_to, uniform}

module _ {A : Type 0} where
  pub count_lawful : (cap : ℕ) → cap ≤ 4294967295 → Lawful (count_up_to {A = A} cap)
  count_lawful cap h = record {
    submodular = record {
      nothing = omega arith;
      order = orderless_after (min cap) length orderless_length;
      more = λ x s. omega arith;
      falls = λ x y s. omega arith;
    };
    bounded = λ s. omega arith;
  }

  pub count_added : (left : ℕ) (x : A) (s : List A) → count_up_to (left - 1) s ≡ count_up_to left (x ∷ s) - count_up_to left (x ∷ [])
  count_added left x s = omega arith

  pub uniform_matroid : {same : A → A → Bool} → Same same → (most : ℕ) → MatroidLaws same (uniform most)
  uniform_matroid eq most = record {
    nothing = le-leb 0 most (omega arith);
    order = orderless_after (λ k. leb k most) length orderless_length;
    fewer = λ x s h. le-leb (length s) most (omega (arith, leb-true (suc (length s)) most h));
    exchange = λ s t hs ht l. let got = longer_has_more eq s t l in (got.0, got.1, le-leb (suc (length s)) most (omega (arith, leb-true (length t) most ht)));
  }
