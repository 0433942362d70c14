-- Numbers modulo P that contracts name, with no word in sight. The negative of y is written (P - 1) * y.
use Rattle.std.specs.Prelude.{ℕ, ◌+◌, ◌-◌, ◌*◌, ◌/◌, ◌%◌, ℤ, pos, negsuc}
use Rattle.prime.specs.Modulus.{P}

-- The inverse of 2.
abbrev pub half : ℕ
half = (P + 1) / 2

-- The remainder of a signed number; negsuc n is -(n + 1).
abbrev pub residue : ℤ → ℕ
residue (pos n) = n % P
residue (negsuc n) = (P - 1) * (n + 1) % P
