-- The laws of powers modulo m. Each is a law of whole numbers, carried over by `power m x e ≡ x ^ e % m`.
use mathlib.Core.Path.{◌≡◌, sym, ap, ◌∙◌}
use Prim.Native.Nat.{ℕ, zero, suc, ◌+◌, ◌*◌, ◌%◌, ◌/◌, ◌^◌, ◌<◌}
use native.Mathlib.Omega.{arith}
use native.Mathlib.Nat.{pow-suc, mod-mod, mul_comm, mul-suc, one-mul, mul-one, mod-add-div, mod-eq_of_lt, mod-lt, lt_irrefl}
use native.Mathlib.Numerals.{unary_clauses}
use lib.Pow.{pow-add}
use Rattle.prime.specs.Powers.{power, power_zero, power_suc}
use Rattle.prime.proofs.Congruence.{mul_same, mul_same_right, mul_mod, zero_times}

-- ---- of whole numbers

pub pow_mul : (x i j : ℕ) → x ^ (i * j) ≡ (x ^ i) ^ j
pow_mul x i zero = simp unary_clauses
pow_mul x i (suc j) =
    ap (λ (k : ℕ). x ^ k) (mul-suc i j) ∙ pow-add x (i * j) i ∙ ap (λ (y : ℕ). y * x ^ i) (pow_mul x i j) ∙ sym (pow-suc (x ^ i) j)

pow_base : (x y e : ℕ) → (x * y) ^ e ≡ x ^ e * y ^ e
pow_base x y zero = simp unary_clauses
pow_base x y (suc e) = rw (pow-suc (x * y) e, pow-suc x e, pow-suc y e, pow_base x y e) (omega arith)

pow_same : (m x y e : ℕ) → x % m ≡ y % m → x ^ e % m ≡ y ^ e % m
pow_same m x y zero h = simp unary_clauses
pow_same m x y (suc e) h = rw (pow-suc x e, pow-suc y e) (mul_same m _ _ _ _ (pow_same m x y e h) h)

-- ---- modulo m

pub power_is : (m x e : ℕ) → power m x e ≡ x ^ e % m
power_is m x zero = power_zero m x ∙ simp unary_clauses
power_is m x (suc e) =
    power_suc m x e ∙ mul_same_right m x _ _ (ap (λ (y : ℕ). y % m) (power_is m x e) ∙ mod-mod (x ^ e) m)
    ∙ ap (λ (y : ℕ). y % m) (mul_comm x (x ^ e) ∙ sym (pow-suc x e))

-- a power is its own remainder
pub power_mod : (m x e : ℕ) → power m x e % m ≡ power m x e
power_mod m x e = rw (power_is m x e) (mod-mod (x ^ e) m)

pub power_below : (m x e : ℕ) → 0 < m → power m x e < m
power_below m x e h = rw (← power_mod m x e) (mod-lt (power m x e) h)

pub power_add : (m x i j : ℕ) → power m x (i + j) ≡ power m x i * power m x j % m
power_add m x i j = rw (power_is m x (i + j), power_is m x i, power_is m x j, pow-add x i j) (mul_mod m (x ^ i) (x ^ j))

-- numbers that are the same modulo m have the same powers
pub power_same : (m x y e : ℕ) → x % m ≡ y % m → power m x e ≡ power m y e
power_same m x y e h = power_is m x e ∙ pow_same m x y e h ∙ sym (power_is m y e)

pub power_mul : (m x i j : ℕ) → power m x (i * j) ≡ power m (power m x i) j
power_mul m x i j =
    rw (power_is m x (i * j), power_is m (power m x i) j, power_is m x i, pow_mul x i j)
    (pow_same m _ _ j (sym (mod-mod (x ^ i) m)))

pub power_base : (m x y e : ℕ) → power m (x * y) e ≡ power m x e * power m y e % m
power_base m x y e = rw (power_is m (x * y) e, power_is m x e, power_is m y e, pow_base x y e) (mul_mod m (x ^ e) (y ^ e))

-- ---- powers of 0, and powers that are 1

pub power_of_zero : (m x e : ℕ) → 0 < e → x % m ≡ 0 → power m x e ≡ 0
power_of_zero m x zero l z = absurd (lt_irrefl 0 l)
power_of_zero m x (suc e) l z = power_suc m x e ∙ zero_times m x (power m x e) z

pub power_of_one : (m k : ℕ) → power m 1 k ≡ 1 % m
power_of_one m zero = power_zero m 1
power_of_one m (suc k) = power_suc m 1 k ∙ ap (λ (x : ℕ). x % m) (one-mul (power m 1 k) ∙ power_of_one m k) ∙ mod-mod 1 m

-- where x^d = 1, so is x^(d·k)
pub power_times : (m x d k : ℕ) → 1 < m → power m x d ≡ 1 → power m x (d * k) ≡ 1
power_times m x d k big e = power_mul m x d k ∙ ap (λ (y : ℕ). power m y k) e ∙ power_of_one m k ∙ mod-eq_of_lt big

-- where x^k = 1, x^(d + k) = x^d
pub power_more : (m x d k : ℕ) → power m x k ≡ 1 → power m x (d + k) ≡ power m x d
power_more m x d k e =
    power_add m x d k ∙ ap (λ (y : ℕ). power m x d * y % m) e ∙ ap (λ (y : ℕ). y % m) (mul-one (power m x d)) ∙ power_mod m x d

-- where x^d = 1, x^e goes by the remainder of e by d
pub power_period : (m x d e : ℕ) → 1 < m → power m x d ≡ 1 → power m x (e % d) ≡ power m x e
power_period m x d e big h =
    sym (power_more m x (e % d) (d * (e / d)) (power_times m x d (e / d) big h)) ∙ ap (power m x) (mod-add-div e d)
