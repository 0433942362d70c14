-- 01, "The exponent decides the power-of-two shift up" and "Shift down": the words that they answer.
use Rattle.std.specs.Prelude.{cond, ℕ, ◌+◌, ◌-◌, ◌*◌, ◌/◌, ◌%◌, ◌^◌, ◌==◌, nat_le, nat_lt}
use Rattle.prime.specs.Modulus.{P}
use Rattle.words.specs.Words.{plus_P, add_word, neg_word, mul_word, halve_word}

-- The table "holds 2^0 to 2^95, canonical".
abbrev pub entry : ℕ → ℕ
entry e = 2 ^ e % P

-- The shift up below 192: 0 gives x; 1 gives add x, x; 2 to 95 mul by the table entry; 96 to 191 mul of neg x by the entry 96 lower.
unfoldable pub up_word : ℕ → ℕ → ℕ
up_word x e =
    cond (e == 0) x
    (cond (e == 1) (add_word x x)
    (cond (nat_lt e 96) (mul_word x (entry e))
    (mul_word (neg_word x) (entry (e - 96)))))

-- The shift up: "192 and up take the remainder by 192".
unfoldable pub shift_up_word : ℕ → ℕ → ℕ
shift_up_word x e = up_word x (e % 192)

-- The shift down by 2 to 32: with l the low e bits of x and h the bits above, h + l·2^(32-e) - l·2^(64-e), plus P if negative.
unfoldable pub split_word : ℕ → ℕ → ℕ
split_word x e = plus_P (x / 2 ^ e + x % 2 ^ e * 2 ^ (32 - e)) (x % 2 ^ e * 2 ^ (64 - e))

-- The shift down below 192: 0 gives x; 1 halves; 2 to 32 as above; 33 to 191 shift up by 192-e.
unfoldable pub down_word : ℕ → ℕ → ℕ
down_word x e =
    cond (e == 0) x
    (cond (e == 1) (halve_word x)
    (cond (nat_le e 32) (split_word x e)
    (up_word x (192 - e))))

-- The shift down "takes the remainder by 192 first".
unfoldable pub shift_down_word : ℕ → ℕ → ℕ
shift_down_word x e = down_word x (e % 192)
