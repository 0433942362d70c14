-- The words of a progression, one by one: each is the one before and the step, modulo 2^64.
use Rattle.std.proofs.Common.{◌≡◌, ℕ, ◌+◌, ◌/◌, ◌%◌, ◌^◌, ◌<◌, ap, ◌∙◌, arith}
use Rattle.replay.specs.Lists.{term}

pub first_term : (first step : ℕ) → first < 2 ^ 64 → first ≡ term first step 0
unfolding term
first_term first step h = omega arith

pub next_term : (first step k : ℕ) {word next : ℕ} → word ≡ term first step k → next ≡ (word + step) % 2 ^ 64 → next ≡ term first step (k + 1)
unfolding term
next_term first step k e n = omega arith

-- after the last byte of a word comes the next
pub byte_last : (first step k : ℕ) {word next : ℕ} → k % 8 ≡ 7 → word ≡ term first step (k / 8) → next ≡ (word + step) % 2 ^ 64
    → next ≡ term first step ((k + 1) / 8)
byte_last first step k h e n =
    next_term first step (k / 8) e n ∙ ap (term first step) (let a : k / 8 + 1 ≡ (k + 1) / 8 = omega arith in a)

-- after any other it is the same
pub byte_within : (first step k : ℕ) {word next : ℕ} → (k % 8 ≡ 7 → ⊥) → word ≡ term first step (k / 8) → next ≡ word
    → next ≡ term first step ((k + 1) / 8)
byte_within first step k h e n = n ∙ e ∙ ap (term first step) (let a : k / 8 ≡ (k + 1) / 8 = omega arith in a)
