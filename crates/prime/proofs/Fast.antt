-- Powers in a form that the checker computes: by repeated squaring, and proved to be the same.
use mathlib.Core.Path.{◌≡◌, refl, sym, ap, ◌∙◌}
use Prim.Native.Nat.{ℕ, zero, suc, ◌*◌, ◌%◌, ◌/◌, ◌^◌}
use native.Mathlib.Nat.{pow-suc, pow-zero, mod-mod, one-mul, mod-add-div}
use lib.Pow.{pow-add}
use Rattle.prime.specs.Powers.{power, power_zero}
use Rattle.prime.proofs.Congruence.{mul_same_right}
use Rattle.prime.proofs.Powers.{pow_mul, power_is, power_same}

-- by squaring at most k times: right for every k, and quick where k is above the number of e's bits
unfoldable pub squaring : ℕ → ℕ → ℕ → ℕ → ℕ
squaring m zero x e = power m x e
squaring m (suc k) x zero = 1 % m
squaring m (suc k) x (suc e) = x ^ (suc e % 2) * squaring m k (x * x % m) (suc e / 2) % m

-- no exponent here has more than 64 bits
unfoldable pub fast : ℕ → ℕ → ℕ → ℕ
unfolding squaring
fast m x e = squaring m 65 x e

square : (x : ℕ) → x * x ≡ x ^ 2
square x = sym (pow-suc x 1 ∙ ap (λ (y : ℕ). y * x) (pow-suc x 0 ∙ ap (λ (y : ℕ). y * x) (pow-zero x) ∙ one-mul x))

-- the step of repeated squaring
pow_halved : (x e : ℕ) → x ^ (e % 2) * (x * x) ^ (e / 2) ≡ x ^ e
pow_halved x e = rw (square x, ← pow_mul x 2 (e / 2), ← pow-add x (e % 2) (2 * (e / 2)), mod-add-div e 2)

-- one squaring
halved : (m x e : ℕ) → x ^ (e % 2) * power m (x * x % m) (e / 2) % m ≡ power m x e
halved m x e =
    rw (power_same m (x * x % m) (x * x) (e / 2) (mod-mod (x * x) m), power_is m (x * x) (e / 2), power_is m x e)
    (mul_same_right m (x ^ (e % 2)) _ _ (mod-mod ((x * x) ^ (e / 2)) m) ∙ ap (λ (y : ℕ). y % m) (pow_halved x e))

squaring_power : (m k x e : ℕ) → squaring m k x e ≡ power m x e
unfolding squaring
squaring_power m zero x e = refl
squaring_power m (suc k) x zero = sym (power_zero m x)
squaring_power m (suc k) x (suc e) = rw (squaring_power m k (x * x % m) (suc e / 2)) (halved m x (suc e))

-- the fast form is the same
pub fast_power : (m x e : ℕ) → fast m x e ≡ power m x e
unfolding fast
fast_power m x e = squaring_power m 65 x e
