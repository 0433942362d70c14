-- Where each number is 0 or has an inverse modulo m: a factor that is not 0 cancels, a product is 0 only if a factor is, and m is a prime.
use mathlib.Core.Path.{◌≡◌, sym, ap, ◌∙◌}
use mathlib.Core.Logic.{◌⊎◌, inl, inr, ◌≢◌, ⊎_elim}
use Prim.Native.Nat.{ℕ, ◌*◌, ◌%◌, ◌<◌}
use native.Mathlib.Omega.{arith}
use native.Mathlib.Nat.{mod-eq_of_lt, add-mul-mod_self_left, one-mul, mul-zero, mul_comm, zero-mod, mod_self, eq_of_mul-eq-mul_left, eq-one_of_dvd-one, dvd-mul_left}
use native.Mathlib.Decide.{ℕ_discrete}
use Rattle.prime.specs.Residues.{Multiple}
use Rattle.prime.proofs.Fields.{Inverse, Field}
use Rattle.prime.proofs.Congruence.{mul_same_left, mul_same_right, zero_of_multiple, multiple_of_zero}

module _ (m : ℕ) (big : 1 < m) (field : Field m) where
  pub inverse : (x : ℕ) → x % m ≢ 0 → (y : ℕ) × (x * y % m ≡ 1)
  inverse x h = go (field x)
    where
      go : Multiple m x ⊎ Inverse m x → (y : ℕ) × (x * y % m ≡ 1)
      go (inl z) = absurd (h (zero_of_multiple m x z))
      go (inr (u, v, e)) = (u, ap (λ (y : ℕ). y % m) e ∙ add-mul-mod_self_left 1 m v ∙ mod-eq_of_lt big)

  -- u undoes x
  undo : (x u y : ℕ) → x * u % m ≡ 1 → u * (x * y) % m ≡ y % m
  undo x u y e =
      ap (λ (z : ℕ). z % m) (let r : u * (x * y) ≡ x * u * y = omega arith in r)
      ∙ mul_same_left m (x * u) 1 y (e ∙ sym (mod-eq_of_lt big)) ∙ ap (λ (z : ℕ). z % m) (one-mul y)

  pub cancel : (x y z : ℕ) → x % m ≢ 0 → x * y % m ≡ x * z % m → y % m ≡ z % m
  cancel x y z h e =
      let (u, unit) = inverse x h in
      sym (undo x u y unit) ∙ mul_same_right m u (x * y) (x * z) e ∙ undo x u z unit

  pub no_zero_divisors : (x y : ℕ) → x * y % m ≡ 0 → (x % m ≡ 0) ⊎ (y % m ≡ 0)
  no_zero_divisors x y e = go (ℕ_discrete (x % m) 0)
    where
      go : Dec (x % m ≡ 0) → (x % m ≡ 0) ⊎ (y % m ≡ 0)
      go (yes z) = inl z
      go (no h) = inr (cancel x y 0 h (e ∙ sym (zero-mod m) ∙ ap (λ (z : ℕ). z % m) (sym (mul-zero x))) ∙ zero-mod m)

  -- a multiple m·c of m leaves only 1 for b in a·b = m, since c·b = 1
  other : (a b : ℕ) → a * b ≡ m → a % m ≡ 0 → b ≡ 1
  other a b e z =
      let (c, q) = multiple_of_zero m a z in
      let one : c * b ≡ 1 = eq_of_mul-eq-mul_left m (omega arith) (c * b) 1 (omega (arith, ap (λ (x : ℕ). x * b) q)) in
      eq-one_of_dvd-one (rw one at (dvd-mul_left b c))

  pub prime : (a b : ℕ) → a * b ≡ m → (a ≡ 1) ⊎ (b ≡ 1)
  prime a b e =
      ⊎_elim (λ z. inr (other a b e z)) (λ z. inl (other b a (mul_comm b a ∙ e) z))
      (no_zero_divisors a b (ap (λ (x : ℕ). x % m) e ∙ mod_self m))
