-- A number that is at least twice another has a binary digit more. Assumes nothing.
use Rattle.std.proofs.Common.{◌≡◌, ℕ, zero, suc, ◌+◌, ◌-◌, ◌*◌, ◌/◌, ◌^◌, ◌<◌, ◌≤◌, refl, pow-suc, arith}
use lib.Count.{count_leading_zeros}
use Rattle.theory.specs.Digits.{digits_in, binary_length}

pub digits_in_mono : (k j m n : ℕ) → k ≤ j → m ≤ n → digits_in k m ≤ digits_in j n
digits_in_mono zero j m n a b = omega arith
digits_in_mono (suc k) j zero n a b = omega arith
digits_in_mono (suc k) zero (suc m) n a b = absurd (omega arith)
digits_in_mono (suc k) (suc j) (suc m) zero a b = absurd (omega arith)
digits_in_mono (suc k) (suc j) (suc m) (suc n) a b = omega (arith, digits_in_mono k j (suc m / 2) (suc n / 2) (omega arith) (omega arith))

pub binary_length_twice : (w g : ℕ) → 0 < g → 2 * w ≤ g → binary_length w < binary_length g
binary_length_twice w zero pos h = absurd (omega arith)
binary_length_twice w (suc g) pos h = omega (arith, digits_in_mono w g w (suc g / 2) (omega arith) (omega arith))

pub binary_length_pos : (g : ℕ) → 0 < g → 0 < binary_length g
binary_length_pos g pos = omega (arith, binary_length_twice 0 g pos (omega arith))

digits_in_least : (m k n : ℕ) → n < 2 ^ k → digits_in m n ≤ k
digits_in_least zero k n h = omega arith
digits_in_least (suc m) k zero h = omega arith
digits_in_least (suc m) zero (suc n) h = absurd (omega arith)
digits_in_least (suc m) (suc k) (suc n) h = omega (arith, digits_in_least m k (suc n / 2) (omega (arith, pow-suc 2 k)))

digits_in_above : (k n : ℕ) → n < 2 ^ k → n < 2 ^ digits_in k n
digits_in_above zero n h = h
digits_in_above (suc k) zero h = omega arith
digits_in_above (suc k) (suc n) h = omega (arith, pow-suc 2 (digits_in k (suc n / 2)), digits_in_above k (suc n / 2) (omega (arith, pow-suc 2 k)))

below_pow : (n : ℕ) → n < 2 ^ n
below_pow zero = omega arith
below_pow (suc n) = omega (arith, pow-suc 2 n, below_pow n)

-- the binary length of n is the least k with n < 2 ^ k
pub binary_length_least : (k n : ℕ) → n < 2 ^ k → binary_length n ≤ k
binary_length_least k n h = digits_in_least n k n h

pub binary_length_above : (n : ℕ) → n < 2 ^ binary_length n
binary_length_above n = digits_in_above n n (below_pow n)

digits_in_leading : (k n : ℕ) → digits_in k n + count_leading_zeros k n ≡ k
unfolding count_leading_zeros
digits_in_leading zero n = refl
digits_in_leading (suc k) zero = omega arith
digits_in_leading (suc k) (suc n) = omega (arith, digits_in_leading k (suc n / 2))

-- as code has it: `32 - n.leading_zeros()`
pub binary_length_leading : (k n : ℕ) → n < 2 ^ k → binary_length n ≡ k - count_leading_zeros k n
binary_length_leading k n h = omega (arith, digits_in_leading k n, digits_in_least n (digits_in k n) n (digits_in_above k n h), digits_in_least k (binary_length n) n (binary_length_above n))
