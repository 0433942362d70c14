-- The two corrections by P, "less P if 2^64 or more" and "plus P if negative": what they do modulo P, and the code that makes them by sums and
-- differences that wrap. 2^32 - 1 more, wrapping, is P less.
use Rattle.std.proofs.Common.{◌≡◌, ℕ, ◌+◌, ◌-◌, ◌*◌, ◌%◌, ◌^◌, ◌<◌, ◌≤◌, refl, arith, le-ltb, lt-ltb}
use Rattle.std.proofs.lemmas.Bool.Decides.{nat_tests}
use Rattle.prime.specs.Modulus.{P}
use Rattle.prime.proofs.Congruence.{same}
use Rattle.prime.proofs.Choice.{by_lt, by_le}
use Rattle.answers.proofs.Stands.{Stands}
use Rattle.words.specs.Words.{less_P, plus_P, add_word, sub_word}

less_none : (n : ℕ) → n < 2 ^ 64 → less_P n ≡ n
less_none n h = simp (lt-ltb n (2 ^ 64) h)

less_one : (n : ℕ) → 2 ^ 64 ≤ n → less_P n ≡ n - P
less_one n h = simp (le-ltb n (2 ^ 64) h)

pub less_below : (k n : ℕ) → n < 2 ^ 64 + k + P → less_P n < 2 ^ 64 + k
less_below k n h = by_lt (λ (m : ℕ). m < 2 ^ 64 + k) n (2 ^ 64) (λ t. omega arith) (λ t. omega arith)

pub less_element : (n : ℕ) → less_P n % P ≡ n % P
less_element n = by_lt (λ (m : ℕ). m % P ≡ n % P) n (2 ^ 64) (λ t. refl) (λ t. omega arith)

pub plus_stands : (a b : ℕ) → a < 2 ^ 64 + b → b ≤ a + P → Stands ((a + (P - 1) * b) % P) (plus_P a b)
plus_stands a b h k = by_le (Stands ((a + (P - 1) * b) % P)) b a
    (λ t. record { below = omega arith; element = same P _ _ b 0 (omega arith) })
    (λ t. record { below = omega arith; element = same P _ _ b 1 (omega arith) })

module _ (x y s : ℕ) (h : x < 2 ^ 64) (k : y < 2 ^ 64) (e : s ≡ (x + y) % 2 ^ 64) where
  -- a sum that wraps at most once
  pub wraps_none : x ≤ s → s ≡ less_P (x + y)
  wraps_none l = rw (less_none (x + y) (omega arith)) (omega arith)

  pub wraps_one : s < x → s + (2 ^ 32 - 1) ≡ less_P (x + y)
  wraps_one l = rw (less_one (x + y) (omega arith)) (omega arith)

  -- `add`, whose sum wraps not at all, once or twice
  pub add_none : x ≤ s → s ≡ add_word x y
  unfolding add_word
  add_none l = rw (← wraps_none l, less_none s (omega arith))

  module _ (o : ℕ) (f : o ≡ (s + (2 ^ 32 - 1)) % 2 ^ 64) (l : s < x) where
    pub add_one : s ≤ o → o ≡ add_word x y
    unfolding add_word
    add_one m = rw (← wraps_one l, less_none (s + (2 ^ 32 - 1)) (omega arith)) (omega arith)

    pub add_two : o < s → o + (2 ^ 32 - 1) ≡ add_word x y
    unfolding add_word
    add_two m = rw (← wraps_one l, less_one (s + (2 ^ 32 - 1)) (omega arith)) (omega arith)

-- `sub`, whose difference wraps not at all, once or twice
module _ (x y d : ℕ) (h : x < 2 ^ 64) (k : y < 2 ^ 64) (i : d < 2 ^ 64) (e : (d + y) % 2 ^ 64 ≡ x) where
  pub sub_none : y ≤ x → d ≡ sub_word x y
  unfolding sub_word
  sub_none l = grind (arith, nat_tests)

  module _ (o : ℕ) (j : o < 2 ^ 64) (f : (o + (2 ^ 32 - 1)) % 2 ^ 64 ≡ d) (l : x < y) where
    pub sub_one : 2 ^ 32 - 1 ≤ d → o ≡ sub_word x y
    unfolding sub_word
    sub_one m = grind (arith, nat_tests)

    pub sub_two : d < 2 ^ 32 - 1 → o - (2 ^ 32 - 1) ≡ sub_word x y
    unfolding sub_word
    sub_two m = grind (arith, nat_tests)
