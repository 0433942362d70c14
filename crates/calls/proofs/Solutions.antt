-- The numbers that the whole-number side searches for, each by its formula: it is below P, it solves the equation, and no other number below P does.
use mathlib.Core.Path.{◌≡◌, refl, sym, ap, subst, ◌∙◌}
use Prim.Native.Nat.{ℕ, ◌+◌, ◌-◌, ◌*◌, ◌%◌, ◌^◌, ◌<◌}
use native.Mathlib.Nat.{mod-lt, mod-mod, mod-eq_of_lt, mul_comm}
use native.Mathlib.Omega.{arith}
use borrow.Author.Tests.{eqb-true, eq-eqb}
use lib.Dec.{lit<}
use Rattle.prime.specs.Modulus.{P, seventh}
use Rattle.prime.specs.Powers.{power}
use Rattle.prime.specs.Elements.{half}
use Rattle.prime.proofs.Congruence.{same, add_same, mul_same_left, times_one}
use Rattle.prime.proofs.Powers.{power_mod, power_below}
use Rattle.prime.proofs.Search.{least_only}
use Rattle.prime.proofs.Theorems.{power_is, power_of_root, root_of_power}
use Rattle.prime.proofs.Halves.{halves_undo}
use Rattle.calls.specs.WholeNumbers.{solve, The}

-- the search finds the one number that there is
pub solve_is : {f : ℕ → ℕ} {x d : ℕ} → The f x d → solve f x ≡ d
solve_is {f} {x} {d} t = least_only _ P d t.below (eq-eqb (f d) x t.solves) (λ j h e. t.only j h (eqb-true (f j) x e))

pub solved : {f : ℕ → ℕ} {x d : ℕ} → The f x d → The f x (solve f x)
solved {f} {x} t = subst (The f x) (sym (solve_is t)) t

module _ (x y : ℕ) (h : x < P) where
  -- the difference, where -1 is P - 1
  pub difference : The (λ d. (d + y) % P) x ((x + (P - 1) * y) % P)
  difference = record {
    below = mod-lt _ (lit< tt);
    solves = add_same P ((x + (P - 1) * y) % P) y (x + (P - 1) * y) y (mod-mod _ P) refl ∙ same P _ x 0 y (omega arith) ∙ mod-eq_of_lt h;
    only = λ j k e.
        sym (mod-eq_of_lt k) ∙ same P j (j + y + (P - 1) * y) y 0 (omega arith)
        ∙ add_same P (j + y) ((P - 1) * y) x ((P - 1) * y) (e ∙ sym (mod-eq_of_lt h)) refl;
  }

  -- the quotient, by an inverse u of y
  pub quotient : (u : ℕ) → y * u % P ≡ 1 → The (λ d. d * y % P) x (x * u % P)
  quotient u one = record {
    below = mod-lt _ (lit< tt);
    solves = mul_same_left P (x * u % P) (x * u) y (mod-mod (x * u) P) ∙ times_one P x u y (rw (mul_comm u y) one) ∙ mod-eq_of_lt h;
    only = λ j k e. sym (mod-eq_of_lt k) ∙ sym (times_one P j y u one) ∙ mul_same_left P (j * y) x u (e ∙ sym (mod-eq_of_lt h));
  }

-- 2^k has an inverse, the power of a half
halves_invert : (k : ℕ) → 2 ^ k * power P half k % P ≡ 1
halves_invert k = mul_same_left P (2 ^ k) (power P 2 k) (power P half k) (sym (power_is 2 k) ∙ sym (power_mod P 2 k)) ∙ halves_undo k

module _ (x : ℕ) (h : x < P) where
  pub halved : The (λ d. d * 2 % P) x (x * half % P)
  halved = quotient x 2 h half refl

  pub shifted : (k : ℕ) → The (λ d. d * 2 ^ k % P) x (x * power P half k % P)
  shifted k = quotient x (2 ^ k) h (power P half k) (halves_invert k)

  pub seventh_rooted : The (λ d. d ^ 7 % P) x (power P x seventh)
  seventh_rooted = record {
    below = power_below P x seventh (lit< tt);
    solves = sym (power_is (power P x seventh) 7) ∙ power_of_root x ∙ mod-eq_of_lt h;
    only = λ j k e. sym (mod-eq_of_lt k) ∙ sym (root_of_power j) ∙ ap (λ (n : ℕ). power P n seventh) (power_is j 7 ∙ e);
  }
