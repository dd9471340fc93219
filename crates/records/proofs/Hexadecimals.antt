-- Sixteen lower-case hexadecimal digits.
use Rattle.std.proofs.Common.{◌≡◌, ℕ, zero, suc, ◌+◌, ◌*◌, ◌/◌, ◌%◌, ◌^◌, ◌<◌, true, ltb, List, [], ◌∷◌, ◌++◌, map, length, get_or, take, sym, refl, ap, ◌∙◌, subst, pow-suc, arith}
use Rattle.std.proofs.lemmas.Int.Digits.{number_push}
use Rattle.std.proofs.lemmas.List.{map_push, take_more, take_all, length_push}
use Rattle.std.proofs.lemmas.Bool.{and_parts, and_from, ltb-true, lt-ltb, eq-eqb, eqb-true}
use Rattle.std.proofs.lemmas.Bool.Decides.{nat_tests}
use Rattle.std.specs.Int.Digits.{number_from_digits}
use Rattle.records.specs.Format.{hex_digit, hex_digits, hexadecimal}
use Rattle.records.specs.Reading.{digit, digits_in, number_in, sixteen}
use Rattle.records.proofs.Notation.{Notation, digits_plain}

-- a digit and its byte
digit_hex : (d : ℕ) → d < 16 → digit (hex_digit d) ≡ d
digit_hex d h = grind (arith, nat_tests)

hex_digit_lem : (c : ℕ) → digit c < 16 → hex_digit (digit c) ≡ c
hex_digit_lem c h = grind (arith, nat_tests)

pub length_hex : (k n : ℕ) → length (hex_digits k n) ≡ k
length_hex zero n = refl
length_hex (suc k) n = length_push (hex_digits k (n / 16)) (hex_digit (n % 16)) ∙ omega (arith, length_hex k (n / 16))

-- one digit more at the end
in_push : (ds : List ℕ) (c : ℕ) → digits_in 16 ds ≡ true → digit c < 16 → digits_in 16 (ds ++ (c ∷ [])) ≡ true
in_push [] c h l = and_from (ltb (digit c) 16) true (lt-ltb (digit c) 16 l) refl
in_push (x ∷ ds) c h l = let p = and_parts (ltb (digit x) 16) (digits_in 16 ds) h in and_from (ltb (digit x) 16) (digits_in 16 (ds ++ (c ∷ []))) p.0 (in_push ds c p.1 l)

push_in : (ds : List ℕ) (c : ℕ) → digits_in 16 (ds ++ (c ∷ [])) ≡ true → (digits_in 16 ds ≡ true) × (digit c < 16)
push_in [] c h = (refl, ltb-true (digit c) 16 (and_parts (ltb (digit c) 16) true h).0)
push_in (x ∷ ds) c h =
    let p = and_parts (ltb (digit x) 16) (digits_in 16 (ds ++ (c ∷ []))) h in
    let q = push_in ds c p.1 in
    (and_from (ltb (digit x) 16) (digits_in 16 ds) p.0 q.0, q.1)

number_last : (ds : List ℕ) (c : ℕ) → number_in 16 (ds ++ (c ∷ [])) ≡ number_in 16 ds * 16 + digit c
number_last ds c = ap (number_from_digits 16) (map_push digit ds c) ∙ number_push 16 (map digit ds) (digit c)

hex_in : (k n : ℕ) → digits_in 16 (hex_digits k n) ≡ true
hex_in zero n = refl
hex_in (suc k) n =
    let l : n % 16 < 16 = omega arith in
    in_push (hex_digits k (n / 16)) (hex_digit (n % 16)) (hex_in k (n / 16)) (subst (λ (d : ℕ). d < 16) (sym (digit_hex (n % 16) l)) l)

hex_number : (k n : ℕ) → n < 16 ^ k → number_in 16 (hex_digits k n) ≡ n
hex_number zero n h = omega (arith, h)
hex_number (suc k) n h =
    let l : n % 16 < 16 = omega arith in
    let m : n < 16 ^ k * 16 = rw pow-suc at h in
    let q : n / 16 < 16 ^ k = omega (arith, m) in
    number_last (hex_digits k (n / 16)) (hex_digit (n % 16)) ∙ omega (arith, hex_number k (n / 16) q, digit_hex (n % 16) l)

-- the digits are those of the number that they write
hex_unique : (k : ℕ) (ds : List ℕ) → length ds ≡ k → digits_in 16 ds ≡ true → hex_digits k (number_in 16 ds) ≡ ds
hex_unique zero [] e h = refl
hex_unique zero (c ∷ ds) e h = absurd (omega (arith, e))
hex_unique (suc k) ds e h =
    let init : List ℕ = take k ds in
    let c : ℕ = get_or ds k 0 in
    let s : ds ≡ init ++ (c ∷ []) = sym (take_all (k + 1) ds (omega (arith, e))) ∙ take_more ds k 0 (omega (arith, e)) in
    let p = push_in init c (subst (λ (t : List ℕ). digits_in 16 t ≡ true) s h) in
    let m : length init ≡ k = omega (arith, ap length s, length_push init c, e) in
    let n : number_in 16 ds ≡ number_in 16 init * 16 + digit c = ap (number_in 16) s ∙ number_last init c in
    let q : number_in 16 ds / 16 ≡ number_in 16 init = omega (arith, n, p.1) in
    let r : number_in 16 ds % 16 ≡ digit c = omega (arith, n, p.1) in
    let f = hex_unique k init m p.0 in
    let g = hex_digit_lem c p.1 in
    let a : hex_digits k (number_in 16 ds / 16) ≡ init = ap (hex_digits k) q ∙ f in
    let b : hex_digit (number_in 16 ds % 16) ≡ c = ap hex_digit r ∙ g in
    ap (λ (t : List ℕ). t ++ (hex_digit (number_in 16 ds % 16) ∷ [])) a ∙ (ap (λ (x : ℕ). init ++ (x ∷ [])) b ∙ sym s)

pub hexadecimals : (key : List ℕ) → Notation (record { key = key; longest = 16; highest = 18446744073709551615; base = 16; formed = sixteen }) hexadecimal
unfolding hexadecimal
hexadecimals key =
    record {
      formed = λ v low. and_from _ _ (hex_in 16 v) (eq-eqb _ 16 (length_hex 16 v));
      valued = λ v low. hex_number 16 v (omega arith);
      short = λ v low. omega (arith, length_hex 16 v);
      unique = λ ds good low. let p = and_parts _ _ good in hex_unique 16 ds (eqb-true (length ds) 16 p.1) p.0;
      plain = λ ds rest good. digits_plain 16 (omega arith) ds rest (and_parts _ _ good).0;
    }
