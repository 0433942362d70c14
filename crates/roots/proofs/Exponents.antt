-- Words that stand for powers of x: exponents add in a product, and multiply in a power.
use mathlib.Core.Path.{◌≡◌, sym, ap, ◌∙◌}
use Prim.Native.Nat.{ℕ, ◌+◌, ◌*◌, ◌/◌, ◌%◌, ◌^◌}
use native.Mathlib.Nat.{mul-one, two-pow-succ}
use native.Mathlib.Numerals.{add-one}
use native.Mathlib.Omega.{arith}
use Rattle.prime.specs.Modulus.{P}
use Rattle.prime.specs.Powers.{power, power_zero, power_suc}
use Rattle.prime.proofs.Congruence.{mul_same}
use Rattle.prime.proofs.Powers.{power_mod, power_same, power_add, power_mul}

-- y stands for x^a
pub record Raised (x a y : ℕ) : Type 0 where
  pub power_is : y % P ≡ power P x a

same : {x a y : ℕ} → Raised x a y → y % P ≡ power P x a % P
same {x} {a} f = f.power_is ∙ sym (power_mod P x a)

-- 1, and x itself
pub none : (x : ℕ) → Raised x 0 1
none x = record { power_is = sym (power_zero P x) }

pub first : (x : ℕ) → Raised x 1 x
first x = record { power_is = sym (power_suc P x 0 ∙ rw (power_zero P x, mul-one x)) }

-- a product
pub times : {x a b y z r : ℕ} → Raised x a y → Raised x b z → r % P ≡ y * z % P → Raised x (a + b) r
times {x} {a} {b} f g e = record { power_is = e ∙ mul_same P _ _ _ _ (same f) (same g) ∙ sym (power_add P x a b) }

-- a power
pub raised : {x a y : ℕ} (n : ℕ) → Raised x a y → Raised x (a * n) (power P y n)
raised {x} {a} {y} n f = record { power_is = power_mod P y n ∙ power_same P y (power P x a) n (same f) ∙ sym (power_mul P x a n) }

-- a link of a chain
pub linked : {x a b y z r : ℕ} (n : ℕ) → Raised x a y → Raised x b z → r % P ≡ power P y n * z % P → Raised x (a * n + b) r
linked n f g e = times (raised n f) g e

-- a square, where the exponent is a power of two
pub doubled : {x y r : ℕ} (i : ℕ) → Raised x (2 ^ i) y → r % P ≡ y * y % P → Raised x (2 ^ (i + 1)) r
doubled i f e = rw (add-one i, two-pow-succ i) (times f f e)

-- ---- the loop of `exp_u64`: while the product a and the base b stand for powers of x, n is the exponent of a · b^e

pub record Left (x n a b e : ℕ) : Type 0 where
  pub done : ℕ
  pub base : ℕ
  pub done_is : Raised x done a
  pub base_is : Raised x base b
  pub whole : done + base * e ≡ n

pub started : (x n : ℕ) → Left x n 1 x n
started x n = record { done = 0; base = 1; done_is = none x; base_is = first x; whole = omega arith }

-- a turn takes the base over to the product where e is odd, and squares the base
halves : (j e d : ℕ) → e % 2 ≡ d → j * e ≡ j * d + (j + j) * (e / 2)
halves j e d h = omega (arith, ap (λ (k : ℕ). j * k) (let q : e ≡ d + 2 * (e / 2) = omega arith in q))

module _ {x n a b e s : ℕ} (l : Left x n a b e) (square : s % P ≡ b * b % P) where
  pub even : e % 2 ≡ 0 → Left x n a s (e / 2)
  even h = record {
    done = l.done;
    base = l.base + l.base;
    done_is = l.done_is;
    base_is = times l.base_is l.base_is square;
    whole = omega (arith, halves l.base e 0 h);
  }

  pub odd : {r : ℕ} → e % 2 ≡ 1 → r % P ≡ a * b % P → Left x n r s (e / 2)
  odd h g = record {
    done = l.done + l.base;
    base = l.base + l.base;
    done_is = times l.done_is l.base_is g;
    base_is = times l.base_is l.base_is square;
    whole = omega (arith, halves l.base e 1 h);
  }

pub ended : {x n a b e : ℕ} → Left x n a b e → e ≡ 0 → a % P ≡ power P x n
ended {n = n} l z = rw (let h : n ≡ l.done = omega (arith, ap (λ (k : ℕ). l.base * k) z) in h) l.done_is.power_is
