-- Labels that lead from station to station, each to a smaller one, until one is its own. Assumes nothing.
use Rattle.std.proofs.Common.{◌≡◌, ◌≢◌, ℕ, zero, suc, ◌<◌, ◌≤◌, min, max, eqb, List, length, set, sym, refl, ap, ◌∙◌, ⊎_elim, ◌⊎◌, inl, inr, arith, slice_index, slice_index_or}
use mathlib.Core.Path.{fun_ext}
use Rattle.std.specs.Fn.{iterate}
use Rattle.std.specs.List.{range_with_len}
use Rattle.std.proofs.lemmas.List.{get_or_default, get_or_past, get_or-set_other, get_or-set_same}
use Rattle.std.proofs.lemmas.Bool.{cases_lt, cases_eq, eq-eqb, ne_eqb, cond-true, cond-false}
use Rattle.cycles.specs.Labels.{merged, joins, joins_by, root}
use Rattle.cycles.proofs.Labels.{own_label}

-- f never rises
module _ (f : ℕ → ℕ) (falls : (w : ℕ) → f w ≤ w) where
  at_rest : (n w : ℕ) → f w ≡ w → iterate f n w ≡ w
  at_rest zero w e = refl
  at_rest (suc n) w e = ap (iterate f n) e ∙ at_rest n w e

  rest_or_fall : (w : ℕ) → (f w ≡ w) ⊎ (f w < w)
  rest_or_fall w = ⊎_elim (λ l. inr l) (λ l. let low = falls w in inl (omega arith)) (cases_lt (f w) w)

  -- n steps from w lead to rest, so one more leads no further
  settled : (n w : ℕ) → w ≤ n → iterate f n (f w) ≡ iterate f n w
  settled zero w l = let low = falls w in omega arith
  settled (suc n) w l = ⊎_elim (λ e. ap (λ v. iterate f n (f v)) e) (λ k. settled n (f w) (omega arith)) (rest_or_fall w)

  -- what holds at rest, and holds where it does one step on, holds of each number
  by_steps : (P : ℕ → Type 0) → ((w : ℕ) → f w ≡ w → P w) → ((w : ℕ) → f w < w → P (f w) → P w) → (n w : ℕ) → w ≤ n → P w
  by_steps P rest fall zero w l = let low = falls w in rest w (omega arith)
  by_steps P rest fall (suc n) w l = ⊎_elim (rest w) (λ k. fall w k (by_steps P rest fall n (f w) (omega arith))) (rest_or_fall w)

-- where a station's label leads; a station past the list's end has itself for a label
abbrev next : List ℕ → ℕ → ℕ
next labels w = slice_index_or labels w w

next_low : (labels : List ℕ) → ((k : ℕ) → slice_index labels k ≤ k) → (w : ℕ) → next labels w ≤ w
next_low labels low w = ⊎_elim (λ l. let here = low w in omega (arith, get_or_default labels w w 0 l)) (λ l. omega (arith, get_or_past labels w w l)) (cases_lt w (length labels))

-- where each station is its own label, each is its own root
pub root_first : (n w : ℕ) → root (range_with_len 0 n) w ≡ w
unfolding root
root_first n w = at_rest (next (range_with_len 0 n)) (λ v. omega (arith, own_label n v)) (length (range_with_len 0 n)) w (own_label n w)

module _ (labels : List ℕ) (low : (k : ℕ) → slice_index labels k ≤ k) where
  pub root_own : (w : ℕ) → next labels w ≡ w → root labels w ≡ w
  unfolding root
  root_own w e = at_rest (next labels) (next_low labels low) (length labels) w e

  -- a station and its label have one root
  pub root_next : (w : ℕ) → root labels (next labels w) ≡ root labels w
  unfolding root
  root_next w = ⊎_elim (λ l. settled (next labels) (next_low labels low) (length labels) w (omega arith)) (λ l. ap (root labels) (get_or_past labels w w l)) (cases_lt w (length labels))

  -- no station leads to a greater one
  root_low : (w : ℕ) → root labels w ≤ w
  root_low w = by_steps (next labels) (next_low labels low) (λ v. root labels v ≤ v) (λ v e. let own = root_own v e in omega arith) (λ v l h. let one = root_next v in omega arith) w w (omega arith)

  -- so a station that is its own root is its own label
  pub root_itself : (w : ℕ) → w < length labels → root labels w ≡ w → slice_index labels w ≡ w
  root_itself w l e =
      ⊎_elim
      (λ k. get_or_default labels w 0 w l ∙ k)
      (λ k. let one = root_next w in let less = root_low (next labels w) in omega arith)
      (rest_or_fall (next labels) (next_low labels low) w)

-- a, no greater than b, is written over the label of b
module _ (labels : List ℕ) (low : (k : ℕ) → slice_index labels k ≤ k) (a b : ℕ) (less : a ≤ b) (within : b < length labels) where
  abbrev linked : List ℕ
  linked = set labels b a

  linked_low : (k : ℕ) → slice_index linked k ≤ k
  linked_low k = ⊎_elim (λ e. let same = get_or-set_same labels b a 0 within in omega (arith, ap (slice_index linked) e)) (λ e. let h = low k in omega (arith, get_or-set_other labels b k a 0 e)) (cases_eq k b)

  next_linked : next linked b ≡ a
  next_linked = get_or-set_same labels b a b within

  next_other : (w : ℕ) → w ≢ b → next linked w ≡ next labels w
  next_other w n = get_or-set_other labels b w a w n

  -- where both were roots, all that led to b leads to a
  pub root_linked : slice_index labels a ≡ a → slice_index labels b ≡ b → (w : ℕ) → root linked w ≡ merged a b (root labels w)
  root_linked own_a own_b w = by_steps (next labels) (next_low labels low) (λ v. root linked v ≡ merged a b (root labels v)) rest fall w w (omega arith)
    where
      at_a : next linked a ≡ a
      at_a = ⊎_elim (λ e. ap (next linked) e ∙ next_linked) (λ e. next_other a e ∙ get_or_default labels a a 0 (omega arith) ∙ own_a) (cases_eq a b)

      rest : (v : ℕ) → next labels v ≡ v → root linked v ≡ merged a b (root labels v)
      rest v e =
          ⊎_elim
          (λ k. ap (root linked) k ∙ sym (root_next linked linked_low b) ∙ ap (root linked) next_linked ∙ root_own linked linked_low a at_a ∙ sym (cond-true (eqb v b) a v (eq-eqb v b k)))
          (λ k. root_own linked linked_low v (next_other v k ∙ e) ∙ sym (cond-false (eqb v b) a v (ne_eqb v b k)))
          (cases_eq v b)
          ∙ ap (merged a b) (sym (root_own labels low v e))

      fall : (v : ℕ) → next labels v < v → root linked (next labels v) ≡ merged a b (root labels (next labels v)) → root linked v ≡ merged a b (root labels v)
      fall v l e =
          sym (root_next linked linked_low v)
          ∙ ap (root linked) (next_other v (λ k. let own = get_or_default labels b b 0 within ∙ own_b in omega (arith, ap (next labels) k)))
          ∙ e
          ∙ ap (merged a b) (root_next labels low v)

  -- where a is another station on the way from b, each station leads where it did
  pub root_shortened : a < b → root labels a ≡ root labels b → (w : ℕ) → root linked w ≡ root labels w
  root_shortened short leads w = by_steps (next linked) (next_low linked linked_low) (λ v. root linked v ≡ root labels v) rest fall w w (omega arith)
    where
      rest : (v : ℕ) → next linked v ≡ v → root linked v ≡ root labels v
      rest v e =
          let other : v ≢ b = λ k. let at_b = next_linked in omega (arith, ap (next linked) k) in
          root_own linked linked_low v e ∙ sym (root_own labels low v (sym (next_other v other) ∙ e))

      fall : (v : ℕ) → next linked v < v → root linked (next linked v) ≡ root labels (next linked v) → root linked v ≡ root labels v
      fall v l e =
          sym (root_next linked linked_low v)
          ∙ e
          ∙ ⊎_elim
          (λ k. ap (root labels) (ap (next linked) k ∙ next_linked) ∙ leads ∙ ap (root labels) (sym k))
          (λ k. ap (root labels) (next_other v k) ∙ root_next labels low v)
          (cases_eq v b)

-- of two roots the greater leads to the smaller
pub root_merged : (labels : List ℕ) → ((k : ℕ) → slice_index labels k ≤ k) → (a b : ℕ) → a < length labels → b < length labels → slice_index labels a ≡ a → slice_index labels b ≡ b → (w : ℕ) → root (set labels (max a b) (min a b)) w ≡ merged (min a b) (max a b) (root labels w)
root_merged labels low a b in_a in_b own_a own_b w =
    ⊎_elim
    (λ l. let e : min a b ≡ a = omega arith in let f : max a b ≡ b = omega arith in rw (e, f) (root_linked labels low a b (omega arith) in_b own_a own_b w))
    (λ l. let e : min a b ≡ b = omega arith in let f : max a b ≡ a = omega arith in rw (e, f) (root_linked labels low b a (omega arith) in_a own_b own_a w))
    (cases_lt a b)

module _ {A : Type 0} (tail head : A → ℕ) where
  -- before any frame is taken, roots do what labels do
  pub joins_roots : (n : ℕ) (s : List A) → joins tail head (root (range_with_len 0 n)) s ≡ joins_by tail head (range_with_len 0 n) s
  unfolding joins_by
  joins_roots n s = ap (λ label. joins tail head label s) (fun_ext (λ w. root_first n w ∙ sym (own_label n w)))
