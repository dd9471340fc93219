-- Digits of a base, one by one, and the number that they write.
use Rattle.std.proofs.Common.{◌≡◌, ℕ, zero, suc, ◌+◌, ◌*◌, ◌^◌, ◌<◌, ◌≤◌, true, ltb, List, [], ◌∷◌, ◌++◌, map, length, get_or, take, sym, refl, ap, ◌∙◌, subst, mul-le-mul, arith, pow_mono, pow-add}
use Rattle.std.proofs.lemmas.List.{take_more, map_push}
use Rattle.std.proofs.lemmas.Bool.{lt-ltb, ltb-true, and_parts, and_from}
use Rattle.std.proofs.lemmas.Int.Digits.{number_push}
use Rattle.std.specs.Int.Digits.{number_from_digits}
use Rattle.records.specs.Reading.{digit, digits_in, number_in}

-- one digit more at the end
digits_push : (base : ℕ) (ds : List ℕ) (c : ℕ) → digits_in base ds ≡ true → digit c < base → digits_in base (ds ++ (c ∷ [])) ≡ true
digits_push base [] c h l = and_from (ltb (digit c) base) true (lt-ltb (digit c) base l) refl
digits_push base (x ∷ ds) c h l =
    let p = and_parts (ltb (digit x) base) (digits_in base ds) h in
    and_from (ltb (digit x) base) (digits_in base (ds ++ (c ∷ []))) p.0 (digits_push base ds c p.1 l)

module _ (base : ℕ) (bs : List ℕ) (i : ℕ) (l : i < length bs) where
  pub digits_more : digits_in base (take i bs) ≡ true → digit (get_or bs i 0) < base → digits_in base (take (i + 1) bs) ≡ true
  digits_more h low = subst (λ (t : List ℕ). digits_in base t ≡ true) (sym (take_more bs i 0 l)) (digits_push base (take i bs) (get_or bs i 0) h low)

  pub number_more : number_in base (take (i + 1) bs) ≡ number_in base (take i bs) * base + digit (get_or bs i 0)
  number_more =
      ap (number_in base) (take_more bs i 0 l)
      ∙ (ap (number_from_digits base) (map_push digit (take i bs) (get_or bs i 0)) ∙ number_push base (map digit (take i bs)) (digit (get_or bs i 0)))

-- each of some digits is one
pub digits_at : (base : ℕ) (ds : List ℕ) (k : ℕ) → digits_in base ds ≡ true → k < length ds → digit (get_or ds k 0) < base
digits_at base [] k h l = absurd (omega (arith, l))
digits_at base (x ∷ ds) zero h l = ltb-true (digit x) base (and_parts (ltb (digit x) base) (digits_in base ds) h).0
digits_at base (x ∷ ds) (suc k) h l = digits_at base ds k (and_parts (ltb (digit x) base) (digits_in base ds) h).1 (omega (arith, l))

-- a digit more, in a base of at most 16, is at most four bits more
pub four_bits : (n base d i : ℕ) → n < 2 ^ (4 * i) → d < base → base ≤ 16 → n * base + d < 2 ^ (4 * (i + 1))
four_bits n base d i small h low =
    let p : (n + 1) * base ≤ 2 ^ (4 * i) * 16 = mul-le-mul (omega arith) low in
    let q : 2 ^ (4 * i + 4) ≡ 2 ^ (4 * i) * 16 = pow-add 2 (4 * i) 4 in
    let e : 4 * (i + 1) ≡ 4 * i + 4 = omega arith in
    rw e (omega (arith, p, q))

pub sixty_four : (i : ℕ) → i < 16 → 2 ^ (4 * (i + 1)) ≤ 2 ^ 64
sixty_four i h = let k : 4 * (i + 1) ≤ 64 = omega arith in pow_mono k
