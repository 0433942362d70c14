-- A number in decimal: its digits make the number again, are as few as can be, and the first is no zero unless the number is 0.
use mathlib.Core.Path.{◌≡◌, refl, sym, ap, ◌∙◌}
use mathlib.Core.List.{List, [], ◌∷◌, ◌++◌}
use Prim.Native.Nat.{ℕ, zero, suc, ◌+◌, ◌/◌, ◌%◌, ◌^◌, ◌<◌, ◌≤◌, max}
use native.Mathlib.Nat.{mod-eq_of_lt, lt_of_lt_of_le, pow-le-pow_right}
use native.Mathlib.Omega.{arith}
use borrow.Author.Tests.{lt-ltb}
use lib.ListN.{length, get_or, take, length-append, get_or-append}
use lib.Seq.{take_all}
use Rattle.std.specs.Fmt.{decimal as Fmt·decimal}
use Rattle.std.proofs.lemmas.Fmt.{decimal_by_steps_wide}
use Rattle.text.specs.Digits.{glyph, digits, made}
use Rattle.text.specs.Decimals.{places, decimal}
use Rattle.text.proofs.DigitLaws.{length_digits, made_digits}

-- the places hold the number, and no more of them are there than it takes
places_hold : (k n : ℕ) → n < 10 ^ k → n < 10 ^ places k n
unfolding places
places_hold zero n h = h
places_hold (suc k) zero h = omega arith
places_hold (suc k) (suc n) h = let l : suc n < 10 ^ suc (places k (suc n / 10)) = omega (arith, places_hold k (suc n / 10) (omega arith)) in l

places_few : (k j n : ℕ) → n < 10 ^ j → places k n ≤ j
unfolding places
places_few zero j n h = omega arith
places_few (suc k) j zero h = omega arith
places_few (suc k) zero (suc n) h = absurd (omega arith)
places_few (suc k) (suc j) (suc n) h = omega (arith, places_few k j (suc n / 10) (omega arith))

pub decimal_count : (n : ℕ) → length (decimal n) ≡ max 1 (places 20 n)
unfolding decimal
decimal_count n = length_digits 10 (max 1 (places 20 n)) n

-- As many digits as a power of ten above the number has zeros are enough: 20 for any u64.
pub length_decimal : (j n : ℕ) → 0 < j → n < 10 ^ j → length (decimal n) ≤ j
length_decimal j n p h = omega (arith, decimal_count n, places_few 20 j n h)

-- a number that is not 0 has a first digit, and that is not 0
places_some : (k n : ℕ) → 0 < n → n < 10 ^ k → 0 < places k n
unfolding places
places_some zero n p h = omega arith
places_some (suc k) zero p h = omega arith
places_some (suc k) (suc n) p h = omega arith

-- a number of one digit, and one of more: all but its last digit, and that
one_digit : (k n : ℕ) → n < 10 → digits 10 (max 1 (places k n)) n ≡ (48 + n) ∷ []
unfolding places digits glyph
one_digit k n h =
    let e : n % 10 ≡ n = omega arith in
    let one : max 1 (places k n) ≡ 1 = omega (arith, places_few k 1 n (omega arith)) in
    rw (one, e, lt-ltb n 10 h) refl

last_behind : (k n : ℕ) → 10 ≤ n → n < 10 ^ suc k → digits 10 (max 1 (places (suc k) n)) n ≡ digits 10 (max 1 (places k (n / 10))) (n / 10) ++ ((48 + n % 10) ∷ [])
unfolding places digits glyph
last_behind k zero l h = absurd (omega arith)
last_behind k (suc n) l h =
    let e : max 1 (places k (suc n / 10)) ≡ places k (suc n / 10) = omega (arith, places_some k (suc n / 10) (omega arith) (omega arith)) in
    let m : max 1 (suc (places k (suc n / 10))) ≡ suc (places k (suc n / 10)) = omega arith in
    rw (m, e, lt-ltb (suc n % 10) 10 (omega arith)) refl

-- The library writes a number as `decimal` does.
pub same_decimal : (n : ℕ) → n < 10 ^ 20 → Fmt·decimal n ≡ decimal n
unfolding decimal
same_decimal n h =
    decimal_by_steps_wide (λ m ds. (k : ℕ) → m < 10 ^ k → ds ≡ digits 10 (max 1 (places k m)) m)
    (λ m l k f. sym (one_digit k m l))
    more n (omega arith) 20 h
  where
    more : (m : ℕ) (ds : List ℕ) → 10 ≤ m → ((k : ℕ) → m / 10 < 10 ^ k → ds ≡ digits 10 (max 1 (places k (m / 10))) (m / 10)) → (k : ℕ) → m < 10 ^ k → ds ++ ((48 + m % 10) ∷ []) ≡ digits 10 (max 1 (places k m)) m
    more m ds l p zero f = absurd (omega arith)
    more m ds l p (suc k) f = ap (λ front. front ++ ((48 + m % 10) ∷ [])) (p k (omega arith)) ∙ sym (last_behind k m l f)

-- So a line of 20 bytes holds it.
pub held_decimal : (n : ℕ) → n < 10 ^ 20 → take 20 (Fmt·decimal n) ≡ decimal n
held_decimal n h = ap (take 20) (same_decimal n h) ∙ take_all 20 (decimal n) (length_decimal 20 n (omega arith) h)

-- The library's text of a number begins with a digit, and not with `0` unless the number is 0.
begins : (n : ℕ) → n < 10 ^ 64 → (0 < length (Fmt·decimal n)) × (0 < n → 48 < get_or (Fmt·decimal n) 0 0)
begins = decimal_by_steps_wide (λ m ds. (0 < length ds) × (0 < m → 48 < get_or ds 0 0))
    (λ m l. (omega arith, λ p. omega arith))
    (λ m ds l h. (omega (arith, length-append ds ((48 + m % 10) ∷ [])), λ p. omega (arith, get_or-append ds ((48 + m % 10) ∷ []) 0 0 h.0, h.1 (omega arith))))

-- `0` and `16`.
pub zero_and_sixteen : (decimal 0 ≡ 48 ∷ []) × (decimal 16 ≡ 49 ∷ 54 ∷ [])
unfolding glyph digits places decimal
zero_and_sixteen = (refl, refl)

module _ (n : ℕ) (h : n < 10 ^ 20) where
  -- The digits make the number.
  pub made_decimal : made 10 0 (decimal n) ≡ n
  unfolding decimal
  made_decimal =
      let k = max 1 (places 20 n) in
      made_digits 10 (omega arith) (omega arith) k n
      ∙ mod-eq_of_lt (lt_of_lt_of_le (places_hold 20 n h) (pow-le-pow_right {n = 10} (omega arith) {i = places 20 n} {j = k} (omega arith)))

  -- The first is no `0`, but of 0 itself.
  pub first_decimal : 0 < n → get_or (decimal n) 0 0 ≡ 48 → ⊥
  first_decimal p e = omega (arith, rw (same_decimal n h) at (begins n (omega arith)).1 p)
