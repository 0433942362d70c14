-- The modulus of document 01, and the numbers that belong to it.
use Rattle.std.specs.Prelude.{ℕ, ◌+◌, ◌-◌, ◌^◌}

-- 01: P = 2^64 - 2^32 + 1.
abbrev pub P : ℕ
P = 2 ^ 64 - 2 ^ 32 + 1

-- The number whose powers are all the non-zero elements.
abbrev pub generator : ℕ
generator = 7

-- 01, "Seventh root": the exponent that undoes a seventh power.
abbrev pub seventh : ℕ
seventh = 10540996611094048183
