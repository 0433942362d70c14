-- A certificate is right: modulo n + 1, where g has the order n, the powers g^0, .., g^(n - 1) are different and not 0, so by the
-- pigeonhole they are all that is not 0, and each has an inverse.
use mathlib.Core.Path.{◌≡◌, sym, ap, ◌∙◌}
use mathlib.Core.Logic.{◌⊎◌, inl, inr, ◌≢◌, by_cases}
use mathlib.Core.List.{List}
use Prim.Native.Nat.{ℕ, zero, suc, ◌+◌, ◌-◌, ◌*◌, ◌%◌, ◌/◌, ◌≤◌, ◌<◌}
use native.Mathlib.Omega.{arith}
use native.Mathlib.Nat.{mod-lt, one-mul, mul-zero, mul-suc, zero-lt-suc, pos_of_ne-zero, suc-ne-zero, suc_inj, div-add-mod}
use native.Mathlib.Decide.{ℕ_discrete, dec_le}
use lib.Dec.{T}
use Rattle.prime.specs.Lists.{Each}
use Rattle.prime.specs.Powers.{power}
use Rattle.prime.specs.Residues.{Multiple}
use Rattle.prime.proofs.Certificate.{product, pratt}
use Rattle.prime.proofs.Fields.{Inverse, Field, Generates}
use Rattle.prime.proofs.Congruence.{mul_same_left, multiple_of_zero, zero_times}
use Rattle.prime.proofs.Powers.{power_mod, power_below, power_add, power_more}
use Rattle.prime.proofs.Order.{top, climb}
use Rattle.prime.proofs.Pigeonhole.{onto}

module _ (n g : ℕ) where
  abbrev m : ℕ
  m = suc n

  module _ (big : 0 < n) (one : power m g n ≡ 1) (only : (d : ℕ) → power m g d ≡ 1 → Multiple n d) where
    -- g^i · g^(n - i) = 1
    back : (i : ℕ) → i ≤ n → power m g i * power m g (n - i) % m ≡ 1
    back i h = sym (power_add m g i (n - i)) ∙ ap (power m g) (let e : i + (n - i) ≡ n = omega arith in e) ∙ one

    positive : (i : ℕ) → i ≤ n → 0 < power m g i
    positive i h =
        pos_of_ne-zero (λ e. suc-ne-zero 0 (sym (back i h) ∙ zero_times m (power m g i) (power m g (n - i)) (power_mod m g i ∙ e)))

    -- a multiple of n below n is 0
    small : (d c : ℕ) → d < n → d ≡ n * c → d ≡ 0
    small d zero h e = e ∙ mul-zero n
    small d (suc c) h e = omega (arith, mul-suc n c)

    -- g^(j - i) = g^j · g^(n - i), which is 1 where g^i = g^j
    loop : (i j : ℕ) → i ≤ j → j < n → power m g i ≡ power m g j → power m g (j - i) ≡ 1
    loop i j h l e =
        sym (power_more m g (j - i) n one) ∙ ap (power m g) (let r : j - i + n ≡ j + (n - i) = omega arith in r)
        ∙ power_add m g j (n - i) ∙ ap (λ (x : ℕ). x * power m g (n - i) % m) (sym e) ∙ back i (omega arith)

    ordered : (i j : ℕ) → i ≤ j → j < n → power m g i ≡ power m g j → i ≡ j
    ordered i j h l e =
        let (c, q) = only (j - i) (loop i j h l e) in
        omega (arith, small (j - i) c (omega arith) q)

    injective : (i j : ℕ) → i < n → j < n → power m g i ≡ power m g j → i ≡ j
    injective i j hi hj e = by_cases (dec_le i j) (λ h. ordered i j h hj e) (λ h. sym (ordered j i (omega arith) hi (sym e)))

    reach : (y : ℕ) → y < n → (i : ℕ) × (i < n) × (power m g i - 1 ≡ y)
    reach =
        onto n (λ i. power m g i - 1) (λ i l. omega (arith, positive i (omega arith), power_below m g i (omega arith)))
        (λ i j hi hj e. injective i j hi hj (omega (arith, positive i (omega arith), positive j (omega arith))))

    log : (x : ℕ) → x % m ≢ 0 → (i : ℕ) × (i < n) × (power m g i ≡ x % m)
    log x h =
        let (i, l, e) = reach (x % m - 1) (omega (arith, mod-lt x (zero-lt-suc n))) in
        (i, l, omega (arith, positive i (omega arith)))

pub certified : (n g : ℕ) (qs : List ℕ) → 0 < n → T (pratt (suc n) g 1 qs) → Each Field qs → Generates n g
certified n g qs big t fields = record { one = one; only = only; log = log n g big one only }
  where
    whole : 1 * product qs ≡ n
    whole = suc_inj (top (suc n) g 1 qs t).0

    one : power (suc n) g n ≡ 1
    one = rw whole at (top (suc n) g 1 qs t).1

    only : (d : ℕ) → power (suc n) g d ≡ 1 → Multiple n d
    only d e = rw whole at (climb (suc n) g 1 d qs (omega arith) t fields e (d, sym (one-mul d)))

-- the inverse of g^i is g^(n - i)
pub field_of : (n g : ℕ) → 0 < n → Generates n g → Field (suc n)
field_of n g big G x = go (ℕ_discrete (x % suc n) 0)
  where
    unit : (i : ℕ) → i < n → power (suc n) g i ≡ x % suc n → x * power (suc n) g (n - i) % suc n ≡ 1
    unit i l e =
        mul_same_left (suc n) x (power (suc n) g i) _ (sym (power_mod (suc n) g i ∙ e)) ∙ back n g big G.one G.only i (omega arith)

    go : Dec (x % suc n ≡ 0) → Multiple (suc n) x ⊎ Inverse (suc n) x
    go (yes e) = inl (multiple_of_zero (suc n) x e)
    go (no h) =
        let (i, l, e) = G.log x h in
        let u : ℕ = power (suc n) g (n - i) in
        inr (u, x * u / suc n, omega (arith, div-add-mod (x * u) (suc n), unit i l e))
