-- Arithmetic modulo P, statement by statement. What holds over any modulus is instantiated here, once.
use mathlib.Core.Path.{◌≡◌, refl, sym, ap, ◌∙◌}
use mathlib.Core.Logic.{◌⊎◌, ◌≢◌, ◌↔◌}
use mathlib.Core.List.{List}
use Prim.Native.Nat.{ℕ, suc, ◌+◌, ◌-◌, ◌*◌, ◌/◌, ◌%◌, ◌^◌, ◌<◌, ◌≤◌}
use native.Mathlib.Nat.{mod-mod, mul_comm}
use native.Mathlib.Omega.{arith}
use lib.Dec.{eqb→eq, lit<}
use lib.ListN.{length}
use Rattle.prime.specs.Modulus.{P, generator, seventh}
use Rattle.prime.specs.Lists.{Each}
use Rattle.prime.specs.Powers.{power, power_suc}
use Rattle.prime.specs.Residues.{Multiple, Square}
use Rattle.prime.specs.Polynomials.{Root, Zero, Different}
use Rattle.prime.proofs.Powers as powers
use Rattle.prime.proofs.Congruence.{same}
use Rattle.prime.proofs.Inverses as inverses
use Rattle.prime.proofs.Squares as squares
use Rattle.prime.proofs.Polynomials as polynomials
use Rattle.prime.proofs.Prime.{field, generates}

-- ---- Powers

-- A power is the remainder of the whole power.
pub power_is : (x e : ℕ) → power P x e ≡ x ^ e % P
power_is = powers.power_is P

-- Exponents add.
pub power_add : (x i j : ℕ) → power P x (i + j) ≡ power P x i * power P x j % P
power_add = powers.power_add P

-- Exponents multiply.
pub power_mul : (x i j : ℕ) → power P x (i * j) ≡ power P (power P x i) j
power_mul = powers.power_mul P

-- Bases multiply.
pub power_base : (x y e : ℕ) → power P (x * y) e ≡ power P x e * power P y e % P
power_base = powers.power_base P

-- The base may be taken modulo P.
pub power_rest : (x e : ℕ) → power P (x % P) e ≡ power P x e
power_rest x e = powers.power_same P (x % P) x e (mod-mod x P)

-- ---- Negatives

-- P less a number is its negative.
pub opposite : (n : ℕ) → n ≤ P → (P - n) % P ≡ (P - 1) * n % P
opposite n h = same P (P - n) ((P - 1) * n) n 1 (omega arith)

-- ---- Inverses

-- Each non-zero element has an inverse.
pub inverse : (x : ℕ) → x % P ≢ 0 → (y : ℕ) × (x * y % P ≡ 1)
inverse = inverses.inverse P (lit< tt) field

-- A product is zero only if a factor is.
pub no_zero_divisors : (x y : ℕ) → x * y % P ≡ 0 → (x % P ≡ 0) ⊎ (y % P ≡ 0)
no_zero_divisors = inverses.no_zero_divisors P (lit< tt) field

-- A non-zero factor cancels.
pub cancel : (x y z : ℕ) → x % P ≢ 0 → x * y % P ≡ x * z % P → y % P ≡ z % P
cancel = inverses.cancel P (lit< tt) field

-- P is a prime: it is no product but that of 1 and itself.
pub prime : (a b : ℕ) → a * b ≡ P → (a ≡ 1) ⊎ (b ≡ 1)
prime = inverses.prime P (lit< tt) field

-- ---- The generator 7

-- Its powers reach every non-zero element.
pub logarithm : (x : ℕ) → x % P ≢ 0 → (i : ℕ) × (i < P - 1) × (power P generator i ≡ x % P)
logarithm = generates.log

-- Its power is 1 exactly at the multiples of P - 1.
pub order : (d : ℕ) → (power P generator d ≡ 1) ↔ Multiple (P - 1) d
order d = (generates.only d, λ m. ap (power P generator) m.1 ∙ powers.power_times P generator (P - 1) m.0 (lit< tt) generates.one)

-- ---- Fermat and Euler

-- Fermat: x^(P - 1) = 1 for each x that is not zero.
pub fermat : (x : ℕ) → x % P ≢ 0 → power P x (P - 1) ≡ 1
fermat = squares.fermat (P - 1) generator (lit< tt) generates

-- So x^(P - 2) is the inverse of x.
pub inverse_power : (x : ℕ) → x % P ≢ 0 → x * power P x (P - 2) % P ≡ 1
inverse_power x h = sym (power_suc P x (P - 2)) ∙ fermat x h

-- And x^(1 + (P - 1)·k) = x for every x, zero too.
pub fermat_all : (x k : ℕ) → power P x (suc ((P - 1) * k)) ≡ x % P
fermat_all = squares.fermat_all (P - 1) generator (lit< tt) generates

-- Euler: x that is not zero is a square exactly if x^((P - 1) / 2) = 1.
pub euler : (x : ℕ) → x % P ≢ 0 → Square P x ↔ (power P x ((P - 1) / 2) ≡ 1)
euler = squares.euler (P - 1) generator (lit< tt) generates ((P - 1) / 2) refl

-- 7 is no square.
pub generator_no_square : ¬ Square P generator
generator_no_square = squares.no_square (P - 1) generator (lit< tt) generates ((P - 1) / 2) refl

-- a·a = 7·b·b only where both are zero.
pub norm : (a b : ℕ) → a * a % P ≡ generator * (b * b) % P → (a % P ≡ 0) × (b % P ≡ 0)
norm = squares.norm P generator (lit< tt) field generator_no_square

-- ---- Powers of two

-- 2^96 = -1.
pub two_96 : 2 ^ 96 % P ≡ P - 1
two_96 = eqb→eq _ _ tt

-- 2^192 = 1.
pub two_192 : 2 ^ 192 % P ≡ 1
two_192 = eqb→eq _ _ tt

-- ---- Seventh roots

-- Seven times the exponent is one more than a multiple of P - 1.
pub seventh_is : 7 * seventh ≡ suc ((P - 1) * 4)
seventh_is = eqb→eq _ _ tt

-- The seventh root of a seventh power is the element itself,
pub root_of_power : (x : ℕ) → power P (power P x 7) seventh ≡ x % P
root_of_power x = sym (power_mul x 7 seventh) ∙ ap (power P x) seventh_is ∙ fermat_all x 4

-- and so is the seventh power of a seventh root.
pub power_of_root : (x : ℕ) → power P (power P x seventh) 7 ≡ x % P
power_of_root x = sym (power_mul x seventh 7) ∙ ap (power P x) (mul_comm seventh 7 ∙ seventh_is) ∙ fermat_all x 4

-- ---- Polynomials

-- Coefficients that are not all zero have fewer pairwise different roots than the list is long.
pub few_roots : (rs cs : List ℕ) → ¬ Zero P cs → Different P rs → Each (Root P cs) rs → length rs < length cs
few_roots = polynomials.few_roots P (lit< tt) field
