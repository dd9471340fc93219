-- The bags with no even part are the forests, which are the bags of a matroid. Assumes nothing.
use Rattle.std.proofs.Common.{◌≡◌, ℕ, ◌+◌, ◌%◌, Bool, true, false, cond, eqb, ◌≢◌, List, [], ◌∷◌, Decides, sym, refl, ap, ◌∙◌, subst, arith, if◌then◌else◌}
use mathlib.Core.Path.{fun_ext}
use Rattle.std.specs.List.{items_where_true, range_with_len}
use Rattle.std.proofs.lemmas.Bool.{true≢false}
use Rattle.std.proofs.lemmas.Bool.Decides.{same_from_decides}
use Rattle.theory.specs.Bag.{Same}
use Rattle.theory.specs.Laws.{MatroidLaws}
use Rattle.cycles.specs.Graphs.{touches, graphic, EvenlyTouched, NoEvenPart}
use Rattle.cycles.specs.Labels.{joins_by}
use Rattle.cycles.specs.Claims.{GraphicStands}
use Rattle.cycles.proofs.Parity.{differ, parity, some, once}
use Rattle.cycles.proofs.Forests.{forest, Even, cycle, no_cycle, forest_fewer, forest_order}
use Rattle.cycles.proofs.Bases.{exchange}
use Rattle.cycles.proofs.Parts.{graphic_means, touches_cons}
use Rattle.cycles.proofs.Labels.{joins_first}

odd_more : (p q r : Bool) (n : ℕ) → n % 2 ≡ (if r then 1 else 0) → ((if p then 1 else 0) + (if q then 1 else 0) + n) % 2 ≡ (if differ (differ p q) r then 1 else 0)
odd_more true true true n e = omega arith
odd_more true true false n e = omega arith
odd_more true false true n e = omega arith
odd_more true false false n e = omega arith
odd_more false true true n e = omega arith
odd_more false true false n e = omega arith
odd_more false false true n e = omega arith
odd_more false false false n e = omega arith

one_if_odd : (b : Bool) (n : ℕ) → n % 2 ≡ (if b then 1 else 0) → n % 2 ≡ 0 → b ≡ false
one_if_odd true n e z = absurd (omega arith)
one_if_odd false n e z = refl

module _ {A : Type 0} where
  some-part : (m : List Bool) (s : List A) → some m s ≡ true → items_where_true m s ≢ []
  some-part [] s e = absurd (true≢false (sym e))
  some-part (b ∷ m) [] e = absurd (true≢false (sym e))
  some-part (true ∷ m) (x ∷ s) e = λ k. cc
  some-part (false ∷ m) (x ∷ s) e = some-part m s e

  none_part : (m : List Bool) (s : List A) → some m s ≡ false → items_where_true m s ≡ []
  none_part [] s e = refl
  none_part (b ∷ m) [] e = refl
  none_part (true ∷ m) (x ∷ s) e = absurd (true≢false e)
  none_part (false ∷ m) (x ∷ s) e = none_part m s e

module _ {A : Type 0} (tail head : A → ℕ) where
  touches_parity : (c : ℕ) (m : List Bool) (s : List A) → touches tail head c (items_where_true m s) % 2 ≡ (if parity (once tail head c) m s then 1 else 0)
  touches_parity c [] s = refl
  touches_parity c (b ∷ m) [] = refl
  touches_parity c (true ∷ m) (x ∷ s) = ap (λ n. n % 2) (touches_cons tail head c x (items_where_true m s)) ∙ odd_more (eqb (tail x) c) (eqb (head x) c) (parity (once tail head c) m s) (touches tail head c (items_where_true m s)) (touches_parity c m s)
  touches_parity c (false ∷ m) (x ∷ s) = touches_parity c m s

  evenly_even : (m : List Bool) (s : List A) → EvenlyTouched tail head (items_where_true m s) → Even tail head m s
  evenly_even m s k c = one_if_odd (parity (once tail head c) m s) (touches tail head c (items_where_true m s)) (touches_parity c m s) (k c)

  even_evenly : (m : List Bool) (s : List A) → Even tail head m s → EvenlyTouched tail head (items_where_true m s)
  even_evenly m s ev c = touches_parity c m s ∙ ap (λ b. cond b 1 0) (ev c)

  forest_means : (s : List A) → Decides (forest tail head s) (NoEvenPart tail head s)
  forest_means s = (λ e m p k. p (none_part m s (no_cycle tail head s e m (evenly_even m s k))), λ o. go (forest tail head s) refl o)
    where
      go : (b : Bool) → forest tail head s ≡ b → NoEvenPart tail head s → b ≡ true
      go true e o = refl
      go false e o = let c = cycle tail head s e in absurd (o c.mask (some-part c.mask s c.proper) (even_evenly c.mask s c.even))

  graphic_forest : (s : List A) → forest tail head s ≡ graphic tail head s
  graphic_forest s = same_from_decides (forest tail head s) (graphic tail head s) (forest_means s) (graphic_means tail head s)

  -- labels tell what is independent
  pub graphic_labels : (n : ℕ) (s : List A) → joins_by tail head (range_with_len 0 n) s ≡ graphic tail head s
  graphic_labels n s = joins_first tail head n s ∙ graphic_forest s

module _ {A : Type 0} {same : A → A → Bool} (eq : Same same) (tail head : A → ℕ) where
  pub graphic_matroid : MatroidLaws same (graphic tail head)
  graphic_matroid = subst (MatroidLaws same) (fun_ext (graphic_forest tail head)) (record { nothing = refl; order = forest_order tail head; fewer = forest_fewer tail head; exchange = exchange eq tail head })

pub graphic_stands : (A : Type 0) → GraphicStands A
graphic_stands A same tail head eq = record { right = graphic_means tail head; laws = graphic_matroid eq tail head; labels = graphic_labels tail head }
