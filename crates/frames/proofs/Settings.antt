-- What it means that a list of settings is not refused. Assumes nothing.
use Rattle.std.proofs.Common.{◌≡◌, ℕ, ◌+◌, ◌%◌, ◌<◌, ◌≤◌, Bool, true, false, cond, leb, List, [], ◌∷◌, length, get_or, drop, Some, None, Option, refl, ◌∙◌, arith}
use Rattle.std.specs.List.{AllByRecursion}
use Rattle.std.proofs.Math.Nat.{mod-eq_of_lt}
use Rattle.std.proofs.lemmas.Grind.{same_number_lists}
use Rattle.std.proofs.lemmas.List.{at_drop_more, at_drop_all}
use Rattle.std.proofs.lemmas.Bool.{leb-true, le-leb, lt-leb, cond-true, cond-false}
use Rattle.frames.specs.declared.refusal.Refusal.TheVariants.{Over}
use Rattle.frames.specs.declared.setting.SettingFault.{SettingFault}
use Rattle.frames.specs.Settings.{first_over}

-- something is not nothing
pub some_none : {X : Type 0} (x : X) → Some x ≡ None → ⊥
some_none x e = cc

-- a test that fails leads to a fault
pub passed : (b : Bool) (o : Option SettingFault) (f : SettingFault) → cond b o (Some f) ≡ None → (b ≡ true) × (o ≡ None)
passed true o f e = (refl, e)
passed false o f e = cc

-- where no number is above the highest, each is at most the highest
pub over_none : (highest i : ℕ) (ns : List ℕ) → first_over highest i ns ≡ None → AllByRecursion (λ n. n ≤ highest) ns
over_none highest i [] e = tt
over_none highest i (n ∷ ns) e = let low = passed (leb n highest) _ _ e in (leb-true n highest low.0, over_none highest (i + 1) ns low.1)

module _ (highest : ℕ) (ns : List ℕ) (i : ℕ) (d : ℕ) where
  -- the number at i is not above the highest
  pub over_more : i < length ns → get_or ns i d ≤ highest → first_over highest i (drop i ns) ≡ first_over highest (i + 1) (drop (i + 1) ns)
  over_more l h = at_drop_more (first_over highest i) ns i d l ∙ cond-true (leb (get_or ns i d) highest) (first_over highest (i + 1) (drop (i + 1) ns)) (Some (record { refusal = Over; index = i })) (le-leb (get_or ns i d) highest h)

  -- it is
  pub over_here : i < length ns → highest < get_or ns i d → first_over highest i (drop i ns) ≡ Some (record { refusal = Over; index = i })
  over_here l h = at_drop_more (first_over highest i) ns i d l ∙ cond-false (leb (get_or ns i d) highest) (first_over highest (i + 1) (drop (i + 1) ns)) (Some (record { refusal = Over; index = i })) (lt-leb (get_or ns i d) highest h)

  -- the end is reached
  pub over-all : length ns ≤ i → first_over highest i (drop i ns) ≡ None
  over-all l = at_drop_all (first_over highest i) ns i l

-- bytes that are the low bytes of numbers below 256 are those numbers
pub low_bytes_same :
    (bytes ns : List ℕ) (n : ℕ) → length bytes ≡ n → length ns ≡ n → ((i : ℕ) → get_or ns i 0 ≤ 255)
    → ((i : ℕ) → i < n → get_or bytes i 0 ≡ get_or ns i 0 % 256) → bytes ≡ ns
low_bytes_same bytes ns n long many small low = same_number_lists bytes ns (omega arith) (λ k h. low k (omega arith) ∙ mod-eq_of_lt (omega (arith, small k)))
