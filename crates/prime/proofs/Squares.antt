-- Modulo n + 1, where g generates: Fermat's theorem, Euler's criterion, and that g is no square. Each x that is not 0 is some g^i.
use mathlib.Core.Path.{◌≡◌, sym, ap, ◌∙◌}
use mathlib.Core.Logic.{◌≢◌, ◌↔◌, ⊎_elim}
use Prim.Native.Nat.{ℕ, zero, suc, ◌+◌, ◌*◌, ◌%◌, ◌<◌}
use native.Mathlib.Omega.{arith}
use native.Mathlib.Nat.{mod-eq_of_lt, mul_comm, mul_assoc, mul-one, mul-zero, mul-suc, eq_of_mul-eq-mul_left, suc-ne-zero}
use native.Mathlib.Decide.{ℕ_discrete}
use Rattle.prime.specs.Powers.{power, power_suc}
use Rattle.prime.specs.Residues.{Square}
use Rattle.prime.proofs.Fields.{Field, Generates}
use Rattle.prime.proofs.Congruence.{mul_same, mul_same_left, mul_same_right, zero_times}
use Rattle.prime.proofs.Powers.{power_mod, power_add, power_mul, power_base, power_same, power_times, power_of_zero}
use Rattle.prime.proofs.Inverses.{inverse, no_zero_divisors}

module _ (n g : ℕ) where
  abbrev m : ℕ
  m = suc n

  module _ (big : 0 < n) (G : Generates n g) where
    -- x as a power of g, and its powers
    logarithm : (x e : ℕ) → x % m ≢ 0 → (i : ℕ) × (power m g i ≡ x % m) × (power m x e ≡ power m g (i * e))
    logarithm x e h =
        let (i, l, q) = G.log x h in
        (i, q, power_same m x (power m g i) e (sym (power_mod m g i ∙ q)) ∙ sym (power_mul m g i e))

    pub fermat : (x : ℕ) → x % m ≢ 0 → power m x n ≡ 1
    fermat x h =
        let (i, q, e) = logarithm x n h in
        e ∙ ap (power m g) (mul_comm i n) ∙ power_times m g n i (omega arith) G.one

    -- so x^(1 + n·k) = x for every x, 0 too
    pub fermat_all : (x k : ℕ) → power m x (suc (n * k)) ≡ x % m
    fermat_all x k = power_suc m x (n * k) ∙ go (ℕ_discrete (x % m) 0)
      where
        go : Dec (x % m ≡ 0) → x * power m x (n * k) % m ≡ x % m
        go (yes e) = zero_times m x (power m x (n * k)) e ∙ sym e
        go (no h) = rw (power_times m x n k (omega arith) (fermat x h), mul-one x)

    module _ (h : ℕ) (half : n ≡ 2 * h) where
      -- y^2 to the power h is y^n; and where g^(i·h) = 1, n divides i·h, so i is even
      pub euler : (x : ℕ) → x % m ≢ 0 → Square m x ↔ (power m x h ≡ 1)
      euler x x≢0 = (square, root)
        where
          square : Square m x → power m x h ≡ 1
          square (y, e) =
              power_same m x (y * y) h (sym e) ∙ power_base m y y h ∙ sym (power_add m y h h)
              ∙ ap (power m y) (let r : h + h ≡ n = omega arith in r) ∙ fermat y (λ z. x≢0 (sym e ∙ zero_times m y y z))

          even : (i c : ℕ) → i * h ≡ n * c → i ≡ c + c
          even i c e = eq_of_mul-eq-mul_left h (omega arith) i (c + c) (omega (arith, ap (λ (z : ℕ). z * c) half))

          root : power m x h ≡ 1 → Square m x
          root e =
              let (i, q, p) = logarithm x h x≢0 in
              let (c, r) = G.only (i * h) (sym p ∙ e) in
              (power m g c, sym (power_add m g c c) ∙ ap (power m g) (sym (even i c r)) ∙ q)

      -- g^h is not 1, since n does not divide h
      pub no_square : ¬ Square m g
      no_square s =
          let (c, e) = G.only h ((euler g (λ z. suc-ne-zero 0 (sym G.one ∙ power_of_zero m g n big z))).0 s) in
          go c e
        where
          go : (c : ℕ) → h ≡ n * c → ⊥
          go zero e = omega (arith, mul-zero n)
          go (suc c) e = omega (arith, mul-suc n c)

-- where q is no square, a·a = q·b·b only if both are 0: else a / b would square to q
pub norm : (m q : ℕ) → 1 < m → Field m → ¬ Square m q → (a b : ℕ) → a * a % m ≡ q * (b * b) % m → (a % m ≡ 0) × (b % m ≡ 0)
norm m q big field none a b e = go (ℕ_discrete (b % m) 0)
  where
    zero_square : b % m ≡ 0 → a * a % m ≡ 0
    zero_square z = e ∙ ap (λ (y : ℕ). y % m) (mul_comm q (b * b) ∙ mul_assoc b b q) ∙ zero_times m b (b * q) z

    divided : (u : ℕ) → b * u % m ≡ 1 % m → a * u * (a * u) % m ≡ q % m
    divided u one =
        ap (λ (y : ℕ). y % m) (let r : a * u * (a * u) ≡ a * a * (u * u) = omega arith in r)
        ∙ mul_same_left m (a * a) (q * (b * b)) (u * u) e
        ∙ ap (λ (y : ℕ). y % m) (let r : q * (b * b) * (u * u) ≡ q * (b * u * (b * u)) = omega arith in r)
        ∙ mul_same_right m q (b * u * (b * u)) 1 (mul_same m (b * u) (b * u) 1 1 one one) ∙ ap (λ (y : ℕ). y % m) (mul-one q)

    go : Dec (b % m ≡ 0) → (a % m ≡ 0) × (b % m ≡ 0)
    go (yes z) = (⊎_elim (λ h. h) (λ h. h) (no_zero_divisors m big field a a (zero_square z)), z)
    go (no z) =
        let (u, unit) = inverse m big field b z in
        absurd (none (a * u, divided u (unit ∙ sym (mod-eq_of_lt big))))
