-- Shortest decimal digits.
use Rattle.std.proofs.Common.{◌≡◌, ℕ, ◌+◌, ◌-◌, ◌*◌, ◌^◌, ◌<◌, true, not, ◌||◌, eqb, ltb, List, map, length, get_or, decimal, refl, ap, ◌∙◌, ⊎_elim, arith}
use Rattle.std.proofs.lemmas.Fmt.{digits_decimal, digits_value-decimal, length-decimal-le, decimal_nonempty, first_decimal, decimal_digit, decimal-digits_value}
use Rattle.std.proofs.lemmas.Str.Parse.{IsNumeralModel, IsDigitsTest, FoldsDigits, numerals_by_fold}
use Rattle.std.proofs.lemmas.Bool.{cases_eq, and_parts, and_from, or_cases, or_left, or_right, ltb-true, lt-ltb, eqb-true, eq-eqb, ne_eqb, not-true, eqb-false}
use Rattle.std.proofs.lemmas.Bool.Decides.{nat_tests}
use Rattle.std.specs.Int.{IsInRange}
use Rattle.std.specs.Int.Digits.{number_from_digits_after}
use Rattle.records.specs.Reading.{decimal_due, digit, digits_in, number_in}
use Rattle.records.proofs.Notation.{Notation, digits_plain}

digit_in : (c : ℕ) → ltb (digit c) 10 ≡ true → IsInRange 48 57 c
digit_in c h = grind (arith, nat_tests)

in_digit : (c : ℕ) → IsInRange 48 57 c → (ltb (digit c) 10 ≡ true) × (digit c ≡ c - 48)
in_digit c h = (grind (arith, nat_tests), grind (arith, nat_tests))

tells_digits : IsDigitsTest (λ ds. digits_in 10 ds ≡ true)
tells_digits =
    record {
      empty = refl;
      parts = λ c cs h. let p = and_parts (ltb (digit c) 10) (digits_in 10 cs) h in (digit_in c p.0, p.1);
      more = λ c cs i h. and_from (ltb (digit c) 10) (digits_in 10 cs) (in_digit c i).0 h;
    }

reads_on : FoldsDigits (λ n ds. number_from_digits_after 10 n (map digit ds))
reads_on = record { empty = λ n. refl; more = λ n c cs i. ap (λ (d : ℕ). number_from_digits_after 10 (n * 10 + d) (map digit cs)) (in_digit c i).1 }

own : IsNumeralModel (λ ds. digits_in 10 ds ≡ true) (number_in 10)
own = numerals_by_fold (λ ds. digits_in 10 ds ≡ true) tells_digits (λ n ds. number_from_digits_after 10 n (map digit ds)) reads_on

-- no leading zero, unless alone
first : (v : ℕ) → v < 2 ^ 64 → (eqb (length (decimal v)) 1 || not (eqb (get_or (decimal v) 0 0) 48)) ≡ true
first v fits =
    ⊎_elim
    (λ (e : v ≡ 0). or_left _ _ (eq-eqb (length (decimal v)) 1 (ap (λ (n : ℕ). length (decimal n)) e ∙ ap length (decimal_digit 0 (omega arith)))))
    (λ (e : v ≡ 0 → ⊥). or_right _ _ (ap not (ne_eqb (get_or (decimal v) 0 0) 48 (λ z. omega (arith, first_decimal v (omega arith) fits, z)))))
    (cases_eq v 0)

alone : (ds : List ℕ) → (eqb (length ds) 1 || not (eqb (get_or ds 0 0) 48)) ≡ true → get_or ds 0 0 ≡ 48 → length ds ≡ 1
alone ds h e =
    ⊎_elim
    (λ (p : eqb (length ds) 1 ≡ true). eqb-true (length ds) 1 p)
    (λ (p : not (eqb (get_or ds 0 0) 48) ≡ true). absurd (eqb-false (get_or ds 0 0) 48 (not-true (eqb (get_or ds 0 0) 48) p) e))
    (or_cases (eqb (length ds) 1) (not (eqb (get_or ds 0 0) 48)) h)

pub decimals : (key : List ℕ) (most high : ℕ) → 0 < most → high < 10 ^ most → high < 2 ^ 64 → Notation (decimal_due key most high) decimal
decimals key most high some fits small =
    record {
      formed = λ v low. and_from _ _ (and_from _ _ (digits_decimal own v (omega arith)) (lt-ltb 0 (length (decimal v)) (decimal_nonempty v (omega arith)))) (first v (omega arith));
      valued = λ v low. digits_value-decimal own v (omega arith);
      short = λ v low. length-decimal-le most v some (omega arith) (omega arith);
      unique = λ ds good low. let p = and_parts _ _ good in let q = and_parts _ _ p.0 in decimal-digits_value own ds q.0 (ltb-true 0 (length ds) q.1) (alone ds p.1) (omega (arith, low));
      plain = λ ds rest good. digits_plain 10 (omega arith) ds rest (and_parts _ _ (and_parts _ _ good).0).0;
    }
