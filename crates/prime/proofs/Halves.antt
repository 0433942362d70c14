-- Powers of two and of a half, modulo P: 2^192 is 1, and a half is the inverse of 2.
use mathlib.Core.Path.{◌≡◌, refl, sym, ap, ◌∙◌}
use Prim.Native.Nat.{ℕ, ◌+◌, ◌*◌, ◌%◌}
use native.Mathlib.Omega.{arith}
use Rattle.prime.specs.Modulus.{P}
use Rattle.prime.specs.Elements.{half}
use Rattle.prime.specs.Powers.{power}
use Rattle.prime.proofs.Congruence.{same, mul_same_left, times_one}
use Rattle.prime.proofs.Powers.{power_same, power_of_one}
use Rattle.prime.proofs.Theorems.{power_is, power_base, two_192}

pub two_period : power P 2 192 ≡ 1
two_period = power_is 2 192 ∙ two_192

pub half_period : power P half 192 ≡ 1
half_period = power_is half 192

pub halves_undo : (e : ℕ) → power P 2 e * power P half e % P ≡ 1
halves_undo e = sym (power_base 2 half e) ∙ power_same P (2 * half) 1 e refl ∙ power_of_one P e

-- so what times 2^e is x, is x times the e-th power of a half
pub undo_shift : (x e r : ℕ) → r * power P 2 e % P ≡ x % P → r % P ≡ x * power P half e % P
undo_shift x e r h =
    sym (times_one P r (power P 2 e) (power P half e) (halves_undo e)) ∙ mul_same_left P (r * power P 2 e) x (power P half e) h

-- and what is x·a comes back by b, where a·b is 1
pub there_and_back : (x a b r : ℕ) → a * b % P ≡ 1 → r % P ≡ x * a % P → r * b % P ≡ x % P
there_and_back x a b r h e = mul_same_left P r (x * a) b e ∙ times_one P x a b h

-- q is a half of x, where twice q is x or x and a multiple of m
pub half_of : (m h k q x : ℕ) → m + 1 ≡ 2 * h → 2 * q ≡ x + m * k → q % m ≡ x * h % m
half_of m h k q x f g = same m q (x * h) q (k * h) (omega (arith, ap (λ (n : ℕ). n * q) f, ap (λ (n : ℕ). n * h) g))
