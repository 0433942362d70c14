-- 01, "Held words, rule by rule": the word that each operation answers, over ℕ, by tests and natural subtraction. Sums and shifts are in crates of their own.
use Rattle.std.specs.Prelude.{ℕ, ◌+◌, ◌-◌, ◌*◌, ◌/◌, ◌%◌, ◌^◌, ◌<◌, Bool, cond, List, ℤ, pos, negsuc, ◌==◌, nat_le, nat_lt}
use Rattle.prime.specs.Modulus.{P}
use Rattle.prime.specs.Lists.{Each}

-- Each entry is a word, "any u64".
abbrev pub Words : List ℕ → Type 0
Words ws = Each (λ (w : ℕ). w < 2 ^ 64) ws

-- 01: "its canonical form is x if x < P, else x - P".
unfoldable pub canonical : ℕ → ℕ
canonical x = cond (nat_lt x P) x (x - P)

-- n, "less P if 2^64 or more".
abbrev pub less_P : ℕ → ℕ
less_P n = cond (nat_lt n (2 ^ 64)) n (n - P)

-- a - b, "plus P if negative".
abbrev pub plus_P : ℕ → ℕ → ℕ
plus_P a b = cond (nat_le b a) (a - b) (a + P - b)

-- "add x, y": x+y, less P the fewest times (0, 1 or 2) that bring it below 2^64.
unfoldable pub add_word : ℕ → ℕ → ℕ
add_word x y = less_P (less_P (x + y))

-- "sub x, y": x-y, plus P the fewest times (0, 1 or 2) that bring it to 0 or more.
unfoldable pub sub_word : ℕ → ℕ → ℕ
sub_word x y = cond (nat_le y x) (x - y) (plus_P (x + P) y)

-- "neg x": P minus canonical x, so zero gives P.
unfoldable pub neg_word : ℕ → ℕ
neg_word x = P - canonical x

-- "reduce lo, hi": with hh = hi / 2^32 and hl = hi % 2^32, lo-hh, plus P if negative; add hl·(2^32-1); less P if 2^64 or more.
unfoldable pub reduce_word : ℕ → ℕ → ℕ
reduce_word lo hi = less_P (plus_P lo (hi / 2 ^ 32) + hi % 2 ^ 32 * (2 ^ 32 - 1))

-- "reduce of" a whole number: of its two limbs.
abbrev pub wide_word : ℕ → ℕ
wide_word n = reduce_word (n % 2 ^ 64) (n / 2 ^ 64)

-- "mul x, y": reduce of the full 128-bit product; square is mul x, x.
unfoldable pub mul_word : ℕ → ℕ → ℕ
mul_word x y = wide_word (x * y)

-- "halve x": x/2 if the word is even, else (x+P)/2.
unfoldable pub halve_word : ℕ → ℕ
halve_word x = cond (x % 2 == 0) (x / 2) ((x + P) / 2)

-- "from i64": n if n is 0 or more, else P+n; negsuc n is -(n + 1).
abbrev pub from_i64_word : ℤ → ℕ
from_i64_word (pos n) = n
from_i64_word (negsuc n) = P - (n + 1)

-- "from two limbs": canonical form of reduce.
unfoldable pub from_u128_word : ℕ → ℕ → ℕ
from_u128_word lo hi = canonical (reduce_word lo hi)

-- How far from zero the checked i64 reader goes on either side.
abbrev pub bound : ℕ
bound = 2 ^ 63 - 2 ^ 31

-- The checked i64 reader accepts "exactly -(2^63-2^31) to 2^63-2^31, both ends included".
abbrev pub in_range : ℤ → Bool
in_range (pos n) = nat_le n bound
in_range (negsuc n) = nat_le (n + 1) bound
