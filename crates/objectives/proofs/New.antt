-- The classes that a frame shows anew, and what it has to gain by them.
use Rattle.std.proofs.Common.{◌≡◌, ℕ, zero, suc, ◌+◌, ◌-◌, ◌/◌, ◌%◌, ◌^◌, ◌<◌, ◌≤◌, cond, eqb, min, List, [], ◌∷◌, get_or, length, take, drop, length-drop, inl, inr, ap, ◌∙◌, sym, arith}
use lib.Bits.{bit_and}
use lib.Count.{count_leading_zeros}
use Rattle.std.specs.Int.{w64, bit_at, bit_not, trailing_zeros}
use Rattle.std.proofs.lemmas.Nat.{and_le_r, shr-shr, trailing_le, leading_length}
use Rattle.std.proofs.lemmas.Nat.Bits.{bit_at-zero, bit_at-trailing_zeros, bit_at_above}
use Rattle.std.proofs.lemmas.List.{get_or-take, get_or-drop, length-take}
use Rattle.std.proofs.lemmas.Bool.{cases_lt}
use Rattle.frames.specs.declared.frame.Frame.{Frame}
use Rattle.kinds.specs.Objectives.{shows, uncovered, coverage}
use Rattle.kinds.proofs.Covered.{classes_below, classes_more, classes_all, class_new}

-- the bits of a mask stand from its first on and before its end
below_first : (m i : ℕ) → m < 2 ^ 64 → i < trailing_zeros w64 m → bit_at m i ≡ 0
below_first zero i h l = bit_at-zero i
below_first (suc m) i h l = (bit_at-trailing_zeros w64 (suc m) (omega arith) h).2 i l

past_last : (m i : ℕ) → m < 2 ^ 64 → 64 - count_leading_zeros 64 m ≤ i → bit_at m i ≡ 0
past_last m i h l =
    let t = leading_length 64 m h in
    bit_at_above m t.0 i t.2 (omega arith)

-- the classes that x shows anew, as a mask, with the first of them and the end of them
module _ (covered : ℕ) (x : Frame) where
  abbrev pub shown : ℕ
  shown = bit_and x.marks (bit_not w64 covered)

  abbrev pub first : ℕ
  first = trailing_zeros w64 shown

  abbrev pub end : ℕ
  end = 64 - count_leading_zeros 64 shown

  low : shown < 2 ^ 64
  low = omega (arith, and_le_r x.marks (bit_not w64 covered))

  pub some_shown : 0 < shown → first < end
  some_shown some = elim (cases_lt first end) [
    | inl l ↦ l
    | inr l ↦ let one = (bit_at-trailing_zeros w64 shown some low).1 in let none = past_last shown first low l in absurd (omega arith)
  ]

  -- bit i of the mask from the first new class on is class first + i
  shown_from : (i : ℕ) → shows (shown / 2 ^ first) i ≡ shows shown (first + i)
  shown_from i = ap (λ n. eqb (n % 2) 1) (shr-shr shown first i)

  module _ (weights : List ℕ) where
    -- the weights from the first new class to the end: how many they are, and what stands among them
    module _ (part : List ℕ) (e : part ≡ take (end - first) (drop first weights)) where
      pub part_long : length part ≡ min (end - first) (length weights - first)
      part_long = ap length e ∙ length-take (end - first) (drop first weights) ∙ ap (min (end - first)) (length-drop first weights)

      pub part_at : (i : ℕ) → i < end - first → get_or part i 0 ≡ get_or weights (first + i) 0
      part_at i l = ap (λ r. get_or r i 0) e ∙ get_or-take (end - first) (drop first weights) i 0 l ∙ get_or-drop first weights i 0

      -- what the weight there counts
      pub part_shown : (i : ℕ) → i < end - first → cond (shows (shown / 2 ^ first) i) (get_or part i 0) 0 ≡ cond (shows shown (first + i)) (get_or weights (first + i) 0) 0
      part_shown i l = ap (λ b. cond b (get_or part i 0) 0) (shown_from i) ∙ ap (λ w. cond (shows shown (first + i)) w 0) (part_at i l)

    -- what x gains by the classes below n
    abbrev pub gain_below : ℕ → ℕ
    gain_below n = classes_below (λ y. y.marks) (uncovered covered weights) n (x ∷ [])

    -- what x gains by all classes
    abbrev gain_whole : ℕ
    gain_whole = coverage (λ y. y.marks) (uncovered covered weights) (x ∷ [])

    module _ (h : covered < 2 ^ 64) where
      -- class i is gained if x shows it anew
      pub gain_more : (i n : ℕ) → n ≡ i + 1 → n ≤ 64 → gain_below n ≡ gain_below i + cond (shows shown i) (get_or weights i 0) 0
      gain_more i n one l = ap gain_below one ∙ omega (arith, classes_more (λ y. y.marks) (uncovered covered weights) (x ∷ []) i, class_new (λ y. y.marks) covered weights x i (omega arith) h)

      -- where x shows no new class from n on, the next k classes have nothing to gain
      none_new : (n k m : ℕ) → n + k ≡ m → m ≤ 64 → ((i : ℕ) → n ≤ i → i < m → bit_at shown i ≡ 0) → gain_below m ≡ gain_below n
      none_new n zero m e l old = let same : m ≡ n = omega arith in ap gain_below same
      none_new n (suc k) m e l old =
          let i = n + k in
          let hidden : cond (shows shown i) (get_or weights i 0) 0 ≡ 0 = ap (λ b. cond (eqb b 1) (get_or weights i 0) 0) (old i (omega arith) (omega arith)) in
          omega (arith, gain_more i m (omega arith) l, none_new n k i (omega arith) (omega arith) (λ j u v. old j u (omega arith)), hidden)

      -- there is nothing to gain before the first new class, nothing more from the end on, and nothing where no class is new
      pub gain_before : (n : ℕ) → n ≤ first → gain_below n ≡ 0
      gain_before n l = none_new 0 n n (omega arith) (omega (arith, trailing_le 64 shown)) (λ i m k. below_first shown i low (omega arith))

      pub gain_behind : (n : ℕ) → end ≤ n → n ≤ 64 → gain_below n ≡ gain_whole
      gain_behind n l m = sym (none_new n (64 - n) 64 (omega arith) (omega arith) (λ i k j. past_last shown i low (omega arith))) ∙ classes_all (λ y. y.marks) (uncovered covered weights) (x ∷ []) 64 (omega arith)

      pub gain_none : shown ≡ 0 → 0 ≡ gain_whole
      unfolding count_leading_zeros
      gain_none e = let none : count_leading_zeros 64 shown ≡ 64 = ap (count_leading_zeros 64) e in gain_behind 0 (omega arith) (omega arith)
