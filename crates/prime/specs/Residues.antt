-- Multiples, and squares modulo m. That x and y are the same modulo m is `x % m ≡ y % m`.
use Rattle.std.specs.Prelude.{◌≡◌, ℕ, ◌*◌, ◌%◌}

-- d is a multiple of n.
abbrev pub Multiple : ℕ → ℕ → Type 0
Multiple n d = (c : ℕ) × (d ≡ n * c)

-- x is a square modulo m.
abbrev pub Square : ℕ → ℕ → Type 0
Square m x = (y : ℕ) × (y * y % m ≡ x % m)
