-- Products of two words by halves of 32 bits, in two limbs.
use Rattle.std.proofs.Common.{◌≡◌, ℕ, ◌+◌, ◌-◌, ◌*◌, ◌/◌, ◌%◌, ◌^◌, ◌<◌, ◌≤◌, lt_of_le_of_lt, le_of_lt, mod-eq_of_lt, mul-le-mul, mul-le-mul_left, mul-lt-mul_of_pos_right, arith, pow_pos, pow-add}
use mathlib.Core.Path.{subst⁻¹}
use native.Mathlib.Nat.{div-add-mod}
use Rattle.limbs.specs.Limbs.{largest}

pub product_below : (k : ℕ) {a b : ℕ} → a < 2 ^ k → b < 2 ^ k → a * b < 2 ^ (k + k)
product_below k {a} {b} h i =
    subst⁻¹ (λ (n : ℕ). a * b < n) (pow-add 2 k k)
    (lt_of_le_of_lt (mul-le-mul_left a (le_of_lt i)) (mul-lt-mul_of_pos_right h (pow_pos k)))

pub product_most : (k : ℕ) {a b : ℕ} → a < 2 ^ k → b < 2 ^ k → a * b ≤ largest k
product_most k h i = mul-le-mul {n₂ = 2 ^ k - 1} {m₂ = 2 ^ k - 1} (omega arith) (omega arith)

-- a number known to be a product, with its bound
pub bounded : (k : ℕ) {a b n : ℕ} → a < 2 ^ k → b < 2 ^ k → n ≡ a * b → (n ≡ a * b) × (n ≤ largest k)
bounded k h i e = (e, rw e (product_most k h i))

-- the product of two words by their halves
expand : (a b c d : ℕ) → (2 ^ 32 * a + b) * (2 ^ 32 * c + d) ≡ 2 ^ 64 * (a * c) + 2 ^ 32 * (b * c + a * d) + b * d
expand a b c d = omega arith

by_halves : (x y : ℕ) → x * y ≡ 2 ^ 64 * (x / 2 ^ 32 * (y / 2 ^ 32)) + 2 ^ 32 * (x % 2 ^ 32 * (y / 2 ^ 32) + x / 2 ^ 32 * (y % 2 ^ 32)) + x % 2 ^ 32 * (y % 2 ^ 32)
by_halves x y = rw (div-add-mod x (2 ^ 32), div-add-mod y (2 ^ 32)) at (expand (x / 2 ^ 32) (x % 2 ^ 32) (y / 2 ^ 32) (y % 2 ^ 32))

-- the steps of `mul_wide`: the upper halves, the products of halves, and the sum of these
pub multiplied : (x y : ℕ) {xh yh ll lh hl hh n : ℕ} → xh ≡ x / 2 ^ 32 → xh < 2 ^ 32 → yh ≡ y / 2 ^ 32 → yh < 2 ^ 32
    → ll ≡ x % 2 ^ 32 * (y % 2 ^ 32) → lh ≡ x % 2 ^ 32 * (yh % 2 ^ 32) → hl ≡ xh % 2 ^ 32 * (y % 2 ^ 32) → hh ≡ xh % 2 ^ 32 * (yh % 2 ^ 32)
    → n ≡ 2 ^ 64 * hh + 2 ^ 32 * (lh + hl) + ll → n ≡ x * y
multiplied x y a h b i p q r s e = rw (e, p, q, r, s, mod-eq_of_lt h, mod-eq_of_lt i, a, b, by_halves x y)
