-- Sums and products modulo m: each operand may be replaced by another that is the same modulo m.
use mathlib.Core.Path.{◌≡◌, sym, ap, ◌∙◌}
use Prim.Native.Nat.{ℕ, ◌+◌, ◌*◌, ◌%◌, ◌/◌}
use native.Mathlib.Omega.{arith}
use native.Mathlib.Nat.{div-add-mod, add-mul-mod_self_left, mul-mod_right, add-mod, mul_comm, mul_assoc, mul-one, zero-mul, mod-mod, zero-mod}
use Rattle.prime.specs.Residues.{Multiple}

-- numbers that differ by multiples of m are the same modulo m, and the other way round
pub same : (m a b u v : ℕ) → a + m * u ≡ b + m * v → a % m ≡ b % m
same m a b u v e = sym (add-mul-mod_self_left a m u) ∙ ap (λ (x : ℕ). x % m) e ∙ add-mul-mod_self_left b m v

pub differ : (m a b : ℕ) → a % m ≡ b % m → a + m * (b / m) ≡ b + m * (a / m)
differ m a b e = omega (arith, div-add-mod a m, div-add-mod b m)

-- a multiple of m is 0 modulo m, and the other way round
pub zero_of_multiple : (m a : ℕ) → Multiple m a → a % m ≡ 0
zero_of_multiple m a h = ap (λ (x : ℕ). x % m) h.1 ∙ mul-mod_right m h.0

pub multiple_of_zero : (m a : ℕ) → a % m ≡ 0 → Multiple m a
multiple_of_zero m a e = (a / m, omega (arith, div-add-mod a m))

pub add_same : (m a b c d : ℕ) → a % m ≡ c % m → b % m ≡ d % m → (a + b) % m ≡ (c + d) % m
add_same m a b c d e f = rw (add-mod a b m, add-mod c d m, e, f)

pub mul_same_left : (m a c b : ℕ) → a % m ≡ c % m → a * b % m ≡ c * b % m
mul_same_left m a c b e =
    same m (a * b) (c * b) (c / m * b) (a / m * b) (omega (arith, ap (λ (x : ℕ). x * b) (differ m a c e)))

pub mul_same_right : (m a b c : ℕ) → b % m ≡ c % m → a * b % m ≡ a * c % m
mul_same_right m a b c e = rw (mul_comm a b, mul_comm a c) (mul_same_left m b c a e)

pub mul_same : (m a b c d : ℕ) → a % m ≡ c % m → b % m ≡ d % m → a * b % m ≡ c * d % m
mul_same m a b c d e f = mul_same_left m a c b e ∙ mul_same_right m c b d f

-- a product is that of the remainders
pub mul_mod : (m a b : ℕ) → a * b % m ≡ a % m * (b % m) % m
mul_mod m a b = mul_same m a b (a % m) (b % m) (sym (mod-mod a m)) (sym (mod-mod b m))

-- 0 times anything is 0
pub zero_times : (m a b : ℕ) → a % m ≡ 0 → a * b % m ≡ 0
zero_times m a b e = mul_same_left m a 0 b (e ∙ sym (zero-mod m)) ∙ ap (λ (x : ℕ). x % m) (zero-mul b) ∙ zero-mod m

-- a factor and its inverse cancel
pub times_one : (m x a b : ℕ) → a * b % m ≡ 1 % m → x * a * b % m ≡ x % m
times_one m x a b h =
    ap (λ (n : ℕ). n % m) (mul_assoc x a b) ∙ mul_same_right m x (a * b) 1 h ∙ ap (λ (n : ℕ). n % m) (mul-one x)
