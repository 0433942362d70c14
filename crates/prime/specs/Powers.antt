-- Powers modulo m.
use Rattle.std.specs.Prelude.{◌≡◌, refl, ℕ, zero, suc, ◌*◌, ◌%◌}

-- x to the power e, modulo m. It is shut, so that no exponent of 64 bits is ever counted down; its two clauses are the equations below.
pub power : ℕ → ℕ → ℕ → ℕ
power m x zero = 1 % m
power m x (suc e) = x * power m x e % m

-- x^0 = 1
pub power_zero : (m x : ℕ) → power m x zero ≡ 1 % m
unfolding power
power_zero m x = refl

-- x^(e + 1) = x · x^e
pub power_suc : (m x e : ℕ) → power m x (suc e) ≡ x * power m x e % m
unfolding power
power_suc m x e = refl
