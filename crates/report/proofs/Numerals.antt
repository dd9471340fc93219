-- How many decimal digits a number takes, and that its sixteen digits are two for each of its bytes. Assumes nothing.
use Rattle.std.proofs.Common.{◌≡◌, ℕ, zero, suc, ◌*◌, ◌/◌, ◌%◌, ◌^◌, ◌<◌, ◌≤◌, ◌+◌, max, ◌==◌, Bool, true, ◌&&◌, List, [], ◌∷◌, ◌++◌, length, slice_index, refl, sym, ap, ◌∙◌, decimal, append_assoc, arith, inl, inr}
use Rattle.std.proofs.lemmas.Bool.{and_parts, cases_lt, eqb-true}
use Rattle.std.proofs.lemmas.Fmt.{decimal_digit, decimal_nonempty, decimal_step, length-decimal-le}
use Rattle.std.proofs.lemmas.List.{length_push}
use Rattle.std.specs.Int.{byte_at, bytes_high_first}
use native.Mathlib.Nat.{div-div-eq-div-mul, pow-succ'}
use Rattle.hex.specs.Hex.{encode_with, encode_lower, lower_digits}
use Rattle.records.specs.Format.{hex_digit, hex_digits, hexadecimal}
use Rattle.records.proofs.Hexadecimals.{length_hex}

pub sixteen_long : (n : ℕ) → length (hexadecimal n) ≡ 16
unfolding hexadecimal
sixteen_long n = length_hex 16 n

-- the digits of the numbers below n are the table's, which computes
abbrev agree : ℕ → Bool
agree zero = true
agree (suc n) = (slice_index lower_digits n == hex_digit n) && agree n

agree_at : (n k : ℕ) → agree n ≡ true → k < n → slice_index lower_digits k ≡ hex_digit k
agree_at zero k h low = absurd (omega arith)
agree_at (suc n) k h low =
    let parts = and_parts (slice_index lower_digits n == hex_digit n) (agree n) h in
    elim (cases_lt k n) [
      | inl below ↦ agree_at n k parts.1 below
      | inr top ↦
          let e : k ≡ n = omega arith in
          rw e (eqb-true (slice_index lower_digits n) (hex_digit n) parts.0)
    ]

same_digit : (d : ℕ) → d < 16 → slice_index lower_digits d ≡ hex_digit d
same_digit d low = agree_at 16 d refl low

encode-append : (t xs ys : List ℕ) → encode_with t (xs ++ ys) ≡ encode_with t xs ++ encode_with t ys
unfolding encode_with
encode-append t [] ys = refl
encode-append t (b ∷ xs) ys = ap (λ zs. slice_index t (b / 16) ∷ slice_index t (b % 16) ∷ zs) (encode-append t xs ys)

byte_above : (k n : ℕ) → byte_at (suc k) n ≡ byte_at k (n / 256)
byte_above zero n = refl
byte_above (suc k) n = ap (λ w. n / w % 256) (pow-succ' 256 (suc k)) ∙ ap (λ m. m % 256) (sym (div-div-eq-div-mul n 256 (256 ^ suc k)))

bytes_push : (k n : ℕ) → bytes_high_first (suc k) n ≡ bytes_high_first k (n / 256) ++ (n % 256 ∷ [])
bytes_push zero n = refl
bytes_push (suc k) n = ap (λ b. b ∷ bytes_high_first (suc k) n) (byte_above k n) ∙ ap (λ bs. byte_at k (n / 256) ∷ bs) (bytes_push k n)

two_digits : (n : ℕ) → encode_lower (n % 256 ∷ []) ≡ hex_digit (n / 16 % 16) ∷ hex_digit (n % 16) ∷ []
unfolding encode_with
two_digits n =
    let high : n % 256 / 16 ≡ n / 16 % 16 = omega arith in
    let low : n % 256 % 16 ≡ n % 16 = omega arith in
    ap (λ d. slice_index lower_digits d ∷ slice_index lower_digits (n % 256 % 16) ∷ []) high
    ∙ ap (λ d. slice_index lower_digits (n / 16 % 16) ∷ slice_index lower_digits d ∷ []) low
    ∙ ap (λ d. d ∷ slice_index lower_digits (n % 16) ∷ []) (same_digit (n / 16 % 16) (omega arith))
    ∙ ap (λ d. hex_digit (n / 16 % 16) ∷ d ∷ []) (same_digit (n % 16) (omega arith))

bytes_digits : (k m n : ℕ) → m ≡ 2 * k → encode_lower (bytes_high_first k n) ≡ hex_digits m n
unfolding encode_with
bytes_digits zero zero n e = refl
bytes_digits zero (suc m) n e = absurd (omega arith)
bytes_digits (suc k) zero n e = absurd (omega arith)
bytes_digits (suc k) (suc zero) n e = absurd (omega arith)
bytes_digits (suc k) (suc (suc m)) n e =
    let above : n / 256 ≡ n / 16 / 16 = omega arith in
    let front = hex_digits m (n / 16 / 16) in
    ap encode_lower (bytes_push k n) ∙ encode-append lower_digits (bytes_high_first k (n / 256)) (n % 256 ∷ [])
    ∙ ap (λ t. t ++ encode_lower (n % 256 ∷ [])) (bytes_digits k m (n / 256) (omega arith) ∙ ap (hex_digits m) above)
    ∙ ap (λ t. front ++ t) (two_digits n) ∙ sym (append_assoc front (hex_digit (n / 16 % 16) ∷ []) (hex_digit (n % 16) ∷ []))

pub two_for_each_byte : (n : ℕ) → encode_lower (bytes_high_first 8 n) ≡ hexadecimal n
unfolding hexadecimal
two_for_each_byte n = bytes_digits 8 16 n refl

ten_power : (k : ℕ) → 0 < 10 ^ k
ten_power zero = omega arith
ten_power (suc k) = let power : 10 ^ suc k ≡ 10 * 10 ^ k = pow-succ' 10 k in omega (arith, ten_power k)

digits_least : (k n : ℕ) → 10 ^ k ≤ n → n < 2 ^ 64 → k < length (decimal n)
digits_least zero n h b = decimal_nonempty n b
digits_least (suc k) n h b =
    let power : 10 ^ suc k ≡ 10 * 10 ^ k = pow-succ' 10 k in
    let some : 0 < 10 ^ k = ten_power k in
    let step : length (decimal n) ≡ length (decimal (n / 10)) + 1 = ap length (decimal_step n (omega arith) b) ∙ length_push (decimal (n / 10)) (48 + n % 10) in
    omega (arith, step, digits_least k (n / 10) (omega arith) (omega arith))

digit_long : (d : ℕ) → d < 10 → length (decimal d) ≡ 1
digit_long d low = ap length (decimal_digit d low)

-- a number that k digits are too few for, and one more enough; 0 has as many as 1
pub decimal_long : (k n : ℕ) → 10 ^ k ≤ max n 1 → max n 1 < 10 * 10 ^ k → n < 2 ^ 64 → length (decimal n) ≡ k + 1
decimal_long k zero h l b = omega (arith, digits_least k 1 (omega (arith, h)) (omega arith), digit_long 0 (omega arith), digit_long 1 (omega arith))
decimal_long k (suc m) h l b =
    let n = suc m in
    let power : 10 ^ suc k ≡ 10 * 10 ^ k = pow-succ' 10 k in
    let most : length (decimal n) ≤ suc k = length-decimal-le (suc k) n (omega arith) (omega (arith, l)) b in
    omega (arith, most, digits_least k n (omega (arith, h)) b)
