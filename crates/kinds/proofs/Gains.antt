-- Sums over indices, and what one frame more adds to them. Assumes nothing.
use Rattle.std.proofs.Common.{◌≡◌, ℕ, zero, suc, ◌+◌, ◌<◌, ◌≤◌, max, Bool, true, false, cond, not, ◌&&◌, ◌||◌, eqb, ◌⊎◌, List, [], ◌∷◌, get_or, sum_by, sym, refl, ap, ◌∙◌, inl, inr, ⊎_elim, arith, if◌then◌else◌, ◌==◌, slice_index}
use lib.Bits.{bit_or}
use Rattle.std.specs.Int.{bit_at}
use Rattle.std.specs.List.{list_any, range_with_len, AllByRecursion}
use Rattle.std.proofs.lemmas.Nat.Bits.{bit_at_or}
use Rattle.std.proofs.lemmas.List.Sums.{sum_by-cons}
use Rattle.std.proofs.lemmas.Bool.{cases_eq, eq-eqb, ne_eqb}
use Rattle.kinds.specs.Objectives.{shows, of_class, coverage}
use Rattle.kinds.proofs.Objectives.{all_counting}

sum_adds : {I : Type 0} (a b c : I → ℕ) (is : List I) → AllByRecursion (λ i. a i ≡ b i + c i) is → sum_by a is ≡ sum_by b is + sum_by c is
sum_adds a b c [] h = refl
sum_adds a b c (i ∷ is) h = omega (arith, h.0, sum_adds a b c is h.1, sum_by-cons a i is, sum_by-cons b i is, sum_by-cons c i is)

-- what is a sum at each index below n is a sum over them
pub adds_below : (a b c : ℕ → ℕ) (n : ℕ) → ((i : ℕ) → i < n → a i ≡ b i + c i) → sum_by a (range_with_len 0 n) ≡ sum_by b (range_with_len 0 n) + sum_by c (range_with_len 0 n)
adds_below a b c n h = sum_adds a b c (range_with_len 0 n) (all_counting (λ i. a i ≡ b i + c i) 0 n (λ i l. h i (omega arith)))

-- the set of two sets
pub shows_or : (m n i : ℕ) → shows (bit_or m n) i ≡ (shows m i || shows n i)
shows_or m n i = ap (λ k. eqb k 1) (bit_at_or m n i) ∙ top (bit_at m i) (bit_at n i) (omega arith) (omega arith)
  where
    top : (u v : ℕ) → u < 2 → v < 2 → (max u v == 1) ≡ (u == 1 || v == 1)
    top u v h k = grind arith

module _ {A : Type 0} (x : A) (s : List A) where
  -- the classes that x shows and no frame before it
  pub coverage-gain : (marks : A → ℕ) (weights : List ℕ) → coverage marks weights (x ∷ s) ≡ coverage marks weights s + sum_by (λ i. if shows (marks x) i && not (list_any (λ y. shows (marks y) i) s) then slice_index weights i else 0) (range_with_len 0 64)
  unfolding coverage
  coverage-gain marks weights = adds_below (λ i. of_class marks weights i (x ∷ s)) (λ i. of_class marks weights i s) (λ i. cond (shows (marks x) i && not (list_any (λ y. shows (marks y) i) s)) (get_or weights i 0) 0) 64 (λ i l. go (shows (marks x) i) (list_any (λ y. shows (marks y) i) s) (get_or weights i 0))
    where
      go : (a b : Bool) (w : ℕ) → (if a || b then w else 0) ≡ (if b then w else 0) + (if a && not b then w else 0)
      go true true w = omega arith
      go true false w = omega arith
      go false true w = omega arith
      go false false w = omega arith

-- a sum in which one index alone counts
module _ (g : ℕ → ℕ) (k : ℕ) where
  unfoldable pub only : ℕ → ℕ
  only l = if k == l then g l else 0

  pub only_not : (a : ℕ) → (k ≡ a → ⊥) → only a ≡ 0
  unfolding only
  only_not a h = ap (λ b. cond b (g a) 0) (ne_eqb k a h)

  pub only_here : (a : ℕ) → k ≡ a → only a ≡ g k
  unfolding only
  only_here a e = ap (λ b. cond b (g a) 0) (eq-eqb k a e) ∙ ap g (sym e)

  pub sum_out : (a n : ℕ) → (k < a) ⊎ (a + n ≤ k) → sum_by only (range_with_len a n) ≡ 0
  sum_out a zero h = refl
  sum_out a (suc n) h = omega (arith, sum_by-cons only a (range_with_len (a + 1) n), only_not a (λ e. omega (arith, h)), sum_out (a + 1) n (⊎_elim (λ l. inl (omega arith)) (λ l. inr (omega arith)) h))

  pub sum_one : (a n : ℕ) → a ≤ k → k < a + n → sum_by only (range_with_len a n) ≡ g k
  sum_one a zero h l = absurd (omega arith)
  sum_one a (suc n) h l =
      ⊎_elim
      (λ e. omega (arith, sum_by-cons only a (range_with_len (a + 1) n), only_here a e, sum_out (a + 1) n (inl (omega arith))))
      (λ e. omega (arith, sum_by-cons only a (range_with_len (a + 1) n), only_not a e, sum_one (a + 1) n (omega (arith, e)) (omega arith)))
      (cases_eq k a)
