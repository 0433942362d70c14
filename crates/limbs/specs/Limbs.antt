-- Numbers below 2^128, in two limbs.
use Rattle.std.specs.Prelude.{ℕ, ◌+◌, ◌-◌, ◌*◌, ◌^◌}

-- The number that two limbs make.
abbrev pub limbs : ℕ → ℕ → ℕ
limbs lo hi = lo + 2 ^ 64 * hi

-- The largest product of two numbers of k bits.
abbrev pub largest : ℕ → ℕ
largest k = (2 ^ k - 1) * (2 ^ k - 1)
