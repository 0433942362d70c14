-- Powers of G, and elements whose order is a power of two. G is 7^(2^32 - 1), so its order is 2^32, and only one e below 2^32 undoes an element a,
-- that is a·G^e = 1. An element t of the order 2^(j + 1) has t^(2^j) = -1, and so has a power of G: their product has an order of at most 2^j.
use mathlib.Core.Path.{◌≡◌, sym, ap, ap₂, ◌∙◌}
use mathlib.Core.Logic.{◌≢◌, ⊎_elim, by_cases}
use Prim.Native.Nat.{ℕ, suc, ◌+◌, ◌-◌, ◌*◌, ◌%◌, ◌^◌, ◌≤◌, ◌<◌}
use native.Mathlib.Omega.{arith}
use native.Mathlib.Nat.{mul_assoc, one-mul, mod-mod, two-pow-succ, add_comm}
use native.Mathlib.Decide.{dec_le}
use lib.Dec.{eqb→eq}
use lib.Pow.{pow-add}
use Rattle.prime.specs.Modulus.{P, generator}
use Rattle.prime.specs.Powers.{power}
use Rattle.prime.specs.Residues.{Multiple}
use Rattle.prime.proofs.Fast.{fast, fast_power}
use Rattle.prime.proofs.Congruence.{same, add_same, mul_same_left, mul_same_right}
use Rattle.prime.proofs.Powers.{power_mod}
use Rattle.prime.proofs.Theorems.{power_add, power_mul, power_base, no_zero_divisors, order}
use Rattle.roots.specs.Roots.{G}
use Rattle.roots.proofs.Generated.{G_half}

-- one power more: where r = a·x^h, r·x^k = a·x^(h + k)
pub more : (a x h k r : ℕ) → r % P ≡ a * power P x h % P → r * power P x k % P ≡ a * power P x (h + k) % P
more a x h k r e =
    mul_same_left P r (a * power P x h) (power P x k) e ∙ ap (λ (n : ℕ). n % P) (mul_assoc a (power P x h) (power P x k))
    ∙ mul_same_right P a _ _ (sym (mod-mod _ P) ∙ ap (λ (n : ℕ). n % P) (sym (power_add x h k)))

-- ---- the order of G

pub generated : power P generator (2 ^ 32 - 1) ≡ G
unfolding fast
generated = sym (fast_power P generator (2 ^ 32 - 1)) ∙ eqb→eq (fast P generator (2 ^ 32 - 1)) G tt

order_of_G : (d : ℕ) → power P G d ≡ 1 → Multiple (2 ^ 32) d
order_of_G d e =
    let (c, q) = (order ((2 ^ 32 - 1) * d)).0 (power_mul generator (2 ^ 32 - 1) d ∙ ap (λ (y : ℕ). power P y d) generated ∙ e) in
    (c, omega arith)

-- where e and e + d undo a, G^d = 1
undone_again : (a e d : ℕ) → a * power P G e % P ≡ 1 → a * power P G (e + d) % P ≡ 1 → power P G d ≡ 1
undone_again a e d p q =
    sym (power_mod P G d) ∙ ap (λ (n : ℕ). n % P) (sym (one-mul (power P G d))) ∙ more a G e d 1 (sym p) ∙ q

undone_ordered : (a e f : ℕ) → e ≤ f → f < 2 ^ 32 → a * power P G e % P ≡ 1 → a * power P G f % P ≡ 1 → e ≡ f
undone_ordered a e f h k p q =
    let s : e + (f - e) ≡ f = omega arith in
    let (c, d) = order_of_G (f - e) (undone_again a e (f - e) p (rw s q)) in
    omega arith

pub undone_once : (a e f : ℕ) → e < 2 ^ 32 → f < 2 ^ 32 → a * power P G e % P ≡ 1 → a * power P G f % P ≡ 1 → e ≡ f
undone_once a e f h k p q =
    by_cases (dec_le e f) (λ l. undone_ordered a e f l k p q) (λ l. sym (undone_ordered a f e (omega arith) h q p))

-- ---- minus one

-- only 1 and -1 square to 1: (y - 1)·(y + 1) = 0
factored : (y : ℕ) → y * y % P ≡ 1 → (y + (P - 1)) * (y + 1) % P ≡ 0
factored y e = same P _ (y * y + (P - 1)) 0 y (omega arith) ∙ add_same P (y * y) (P - 1) 1 (P - 1) e (eqb→eq _ _ tt)

minus_one : (y : ℕ) → y * y % P ≡ 1 → y % P ≢ 1 → y % P ≡ P - 1
minus_one y e h = ⊎_elim (λ z. absurd (h (omega arith))) (λ z. omega arith) (no_zero_divisors (y + (P - 1)) (y + 1) (factored y e))

half_of_order : (t j : ℕ) → power P t (2 ^ suc j) ≡ 1 → power P t (2 ^ j) ≢ 1 → power P t (2 ^ j) ≡ P - 1
half_of_order t j e h =
    sym (power_mod P t (2 ^ j))
    ∙ minus_one (power P t (2 ^ j)) (sym (power_add t (2 ^ j) (2 ^ j)) ∙ ap (power P t) (sym (two-pow-succ j)) ∙ e)
    (λ z. h (sym (power_mod P t (2 ^ j)) ∙ z))

-- G^(2^d) has the order 2^(j + 1) where j + d = 31
half_of_power : (j d : ℕ) → j + d ≡ 31 → power P (power P G (2 ^ d)) (2 ^ j) ≡ P - 1
half_of_power j d s =
    sym (power_mul G (2 ^ d) (2 ^ j)) ∙ ap (power P G) (sym (pow-add 2 d j) ∙ ap (λ (n : ℕ). 2 ^ n) (add_comm d j ∙ s)) ∙ G_half

pub order_falls : (t j d : ℕ) → j + d ≡ 31 → power P t (2 ^ suc j) ≡ 1 → power P t (2 ^ j) ≢ 1 → power P (t * power P G (2 ^ d)) (2 ^ j) ≡ 1
order_falls t j d s e h =
    power_base t (power P G (2 ^ d)) (2 ^ j) ∙ ap₂ (λ (a b : ℕ). a * b % P) (half_of_order t j e h) (half_of_power j d s) ∙ eqb→eq _ _ tt
