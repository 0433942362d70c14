-- Digits, the bytes that write them, and numbers in digits.
use Rattle.std.specs.Prelude.{◌≡◌, cond, List, [], ◌∷◌, ◌++◌, ℕ, zero, suc, ◌+◌, ◌-◌, ◌*◌, ◌/◌, ◌%◌, ◌<◌, ◌≤◌, length, take, drop, nat_lt, All}

-- The byte of an "uppercase hex digit": `0` to `9`, then `A` to `F`.
unfoldable pub glyph : ℕ → ℕ
glyph d = cond (nat_lt d 10) (48 + d) (55 + d)

-- The digit that a byte writes: the bytes 48 to 57 are `0` to `9`, 65 to 70 are `A` to `F`. Every other byte gives 16, which is no digit.
unfoldable pub digit : ℕ → ℕ
digit b =
    cond (nat_lt b 48) 16
    (cond (nat_lt b 58) (b - 48)
    (cond (nat_lt b 65) 16
    (cond (nat_lt b 71) (b - 55)
    16)))

-- The last k digits of n in a base, the highest in front.
unfoldable pub digits : ℕ → ℕ → ℕ → List ℕ
digits base zero n = []
digits base (suc k) n = digits base k (n / base) ++ (glyph (n % base) ∷ [])

-- The last k hex digits of n.
abbrev pub hex : ℕ → ℕ → List ℕ
hex k n = digits 16 k n

-- The number that digits make in a base, with n in front of them.
unfoldable pub made : ℕ → ℕ → List ℕ → ℕ
made base n [] = n
made base n (b ∷ bs) = made base (n * base + digit b) bs

-- These bytes are a word in hex: up to 16 of them, and each writes a digit.
abbrev pub IsWord : List ℕ → Type 0
IsWord bytes = (length bytes ≤ 16) × All (λ b. digit b < 16) bytes

-- These bytes are a column with a word in it: a space, and then the word.
abbrev pub IsColumn : List ℕ → Type 0
IsColumn bytes = (take 1 bytes ≡ 32 ∷ []) × IsWord (drop 1 bytes)
