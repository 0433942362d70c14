-- Numbers in decimal.
use Rattle.std.specs.Prelude.{List, ℕ, zero, suc, ◌/◌, max}
use Rattle.text.specs.Digits.{digits}

-- How many decimal digits n has with no zero in front, of k at most: 0 has none.
unfoldable pub places : ℕ → ℕ → ℕ
places zero n = zero
places (suc k) zero = zero
places (suc k) (suc n) = suc (places k (suc n / 10))

-- A number below 10^20, and so any u64, in decimal: as many digits as it has, and one for 0.
unfoldable pub decimal : ℕ → List ℕ
decimal n = digits 10 (max 1 (places 20 n)) n
