-- Numbers in two limbs: the upper one, the bound, and their sums, exactly and modulo 2^128.
use Rattle.std.proofs.Common.{◌≡◌, ℕ, ◌+◌, ◌/◌, ◌%◌, ◌^◌, ◌<◌, ◌∙◌, mod-eq_of_lt, arith}
use Rattle.limbs.specs.Limbs.{limbs}

pub upper_limb : (a b : ℕ) → limbs a b / 2 ^ 64 ≡ b + a / 2 ^ 64
upper_limb a b = omega arith

pub limbs_below : (lo hi : ℕ) → lo < 2 ^ 64 → hi < 2 ^ 64 → limbs lo hi < 2 ^ 128
limbs_below lo hi h k = omega arith

-- the sum of a, b and c, d, exactly
pub limbs_sum : (a b c d : ℕ) {lo carry : ℕ} → lo ≡ (a + c) % 2 ^ 64 → carry ≡ (a + c) / 2 ^ 64 → limbs lo (b + d + carry) ≡ limbs a b + limbs c d
limbs_sum a b c d e f = omega arith

-- a sum that wraps at 2^128 is the sum where that is below
pub unwrapped : {m n : ℕ} → m < 2 ^ 128 → n ≡ m % 2 ^ 128 → n ≡ m
unwrapped h e = e ∙ mod-eq_of_lt h
