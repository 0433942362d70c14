-- What digits write is read back: a digit from its byte, and a number, modulo a power of the base, from its last digits.
use mathlib.Core.Path.{◌≡◌, refl, sym, ap₂, ◌∙◌}
use mathlib.Core.Logic.{by_cases}
use mathlib.Core.List.{List, [], ◌∷◌, ◌++◌}
use Prim.Native.Nat.{ℕ, zero, suc, ◌+◌, ◌-◌, ◌*◌, ◌/◌, ◌%◌, ◌^◌, ◌<◌, ◌≤◌}
use native.Mathlib.Nat.{mod-lt, one-le-pow, pow-suc, pow-zero}
use native.Mathlib.Decide.{dec_lt}
use native.Mathlib.Omega.{arith}
use borrow.Author.Tests.{lt-ltb, le-ltb}
use lib.Arith.{mod-mul}
use lib.ListN.{length, get_or, length-append, get_or-append}
use lib.Seq.{get_or_at}
use Rattle.text.specs.Digits.{glyph, digit, digits, made}

-- ---- one digit

pub glyph_digit : (b : ℕ) → digit b < 16 → b ≡ glyph (digit b)
unfolding digit glyph
glyph_digit b =
    by_cases (dec_lt b 48) (λ l. rw (lt-ltb b 48 l) (omega arith))
    (λ k. rw (le-ltb b 48 (omega arith)) (by_cases (dec_lt b 58) (λ l. rw (lt-ltb b 58 l, lt-ltb (b - 48) 10 (omega arith)) (omega arith))
    (λ k. rw (le-ltb b 58 (omega arith)) (by_cases (dec_lt b 65) (λ l. rw (lt-ltb b 65 l) (omega arith))
    (λ k. rw (le-ltb b 65 (omega arith)) (by_cases (dec_lt b 71) (λ l. rw (lt-ltb b 71 l, le-ltb (b - 55) 10 (omega arith)) (omega arith))
    (λ k. rw (le-ltb b 71 (omega arith)) (omega arith))))))))

pub digit_glyph : (d : ℕ) → d < 16 → digit (glyph d) ≡ d
unfolding digit glyph
digit_glyph d h =
    by_cases (dec_lt d 10)
    (λ l. rw (lt-ltb d 10 l, le-ltb (48 + d) 48 (omega arith), lt-ltb (48 + d) 58 (omega arith)) (omega arith))
    (λ l.
    let b = 55 + d in
    rw (le-ltb d 10 (omega arith), le-ltb b 48 (omega arith), le-ltb b 58 (omega arith), le-ltb b 65 (omega arith), lt-ltb b 71 (omega arith)) (omega arith))

-- ---- the digits of a number

pub length_digits : (base k n : ℕ) → length (digits base k n) ≡ k
unfolding digits
length_digits base zero n = refl
length_digits base (suc k) n = omega (arith, length-append (digits base k (n / base)) (glyph (n % base) ∷ []), length_digits base k (n / base))

pub made_append : (base n : ℕ) (bs cs : List ℕ) → made base n (bs ++ cs) ≡ made base (made base n bs) cs
unfolding made
made_append base n [] cs = refl
made_append base n (b ∷ bs) cs = made_append base (n * base + digit b) bs cs

module _ (base : ℕ) (p : 0 < base) (h : base ≤ 16) where
  last_digit : (n : ℕ) → digit (glyph (n % base)) ≡ n % base
  last_digit n = digit_glyph (n % base) (omega (arith, mod-lt n p))

  -- each byte writes a digit of the base
  pub digits_below : (k n i : ℕ) → i < k → digit (get_or (digits base k n) i 0) < base
  unfolding digits
  digits_below zero n i l = absurd (omega arith)
  digits_below (suc k) n i l =
      let front = digits base k (n / base) in
      let last = glyph (n % base) in
      by_cases (dec_lt i k)
      (λ t. rw (get_or-append front (last ∷ []) 0 i (omega (arith, length_digits base k (n / base)))) (digits_below k (n / base) i t))
      (λ t. rw (get_or_at front last [] 0 i (omega (arith, length_digits base k (n / base))), last_digit n) (mod-lt n p))

  pub made_digits : (k n : ℕ) → made base 0 (digits base k n) ≡ n % base ^ k
  unfolding digits made
  made_digits zero n = rw (pow-zero base) (omega arith)
  made_digits (suc k) n =
      made_append base 0 (digits base k (n / base)) (glyph (n % base) ∷ [])
      ∙ ap₂ (λ (m d : ℕ). m * base + d) (made_digits k (n / base)) (last_digit n)
      ∙ rw (pow-suc base k) (sym (mod-mul n (one-le-pow k base p) p))
