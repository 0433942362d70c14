-- 01, "Inverse", "Square root", "Seventh root" and "Generator k": the canonical word of each.
use Rattle.std.specs.Prelude.{Bool, cond, ℕ, ◌-◌, ◌*◌, ◌/◌, ◌%◌, ◌^◌, ◌==◌, nat_lt}
use Rattle.prime.specs.Modulus.{P, seventh}
use Rattle.prime.specs.Powers.{power}
use Rattle.prime.specs.Search.{least}

-- "G being the last generator": 0x185629dcda58878c, of the order 2^32.
abbrev pub G : ℕ
G = 1753635133440165772

-- "Generator k": entry 32 is G, and each entry squares to the one before.
abbrev pub generator_word : ℕ → ℕ
generator_word k = power P G (2 ^ (32 - k))

-- "Inverse": x^(P-2).
abbrev pub inverse_word : ℕ → ℕ
inverse_word x = power P x (P - 2)

-- "Seventh root": x^10540996611094048183.
abbrev pub seventh_word : ℕ → ℕ
seventh_word x = power P x seventh

-- Whether some element squares to x.
unfoldable pub is_square : ℕ → Bool
is_square x = nat_lt (least (λ y. y * y % P == x % P) P) P

-- "Square root": "let e be the least whole number with x^(2^32-1)·G^e = 1". Since G^(2^32) = 1, it is below 2^32.
unfoldable pub exponent : ℕ → ℕ
exponent x = least (λ e. power P x (2 ^ 32 - 1) * power P G e % P == 1) (2 ^ 32)

-- "Square root": "0 for zero"; otherwise "the answer is x^(2^31)·G^(e/2)".
unfoldable pub root_word : ℕ → ℕ
root_word x = cond (x % P == 0) 0 (power P x (2 ^ 31) * power P G (exponent x / 2) % P)

-- The least i below m with t^(2^i) = 1, m if there is none.
unfoldable pub order_log : ℕ → ℕ → ℕ
order_log t m = least (λ i. power P t (2 ^ i) == 1) m
