-- The laws of `least`: it is at most n, it passes if it is below n, and none before it passes. No other number is so.
use mathlib.Core.Path.{◌≡◌, refl, sym, ◌∙◌}
use mathlib.Core.Bool.{Bool, true, false, cond, true≢false}
use mathlib.Core.Logic.{⊎_elim}
use Prim.Native.Nat.{ℕ, zero, suc, ◌≤◌, ◌<◌}
use native.Mathlib.Omega.{arith}
use native.Mathlib.Nat.{le_antisymm, eq-or-lt_of_le}
use Rattle.prime.specs.Search.{least}

-- k is the least number below n that passes t, or n where none does
pub record Least (t : ℕ → Bool) (n k : ℕ) : Type 0 where
  pub within : k ≤ n
  pub passes : k < n → t k ≡ true
  pub before : (j : ℕ) → j < k → t j ≡ false

-- one number more, in front
front : (t : ℕ → Bool) (n k : ℕ) (b : Bool) → t zero ≡ b → Least (λ j. t (suc j)) n k → Least t (suc n) (cond b zero (suc k))
front t n k true e l = record { within = omega arith; passes = λ _. e; before = λ j h. absurd (omega arith) }
front t n k false e l = record { within = omega (arith, l.within); passes = λ h. l.passes (omega arith); before = before }
  where
    before : (j : ℕ) → j < suc k → t j ≡ false
    before zero h = e
    before (suc j) h = l.before j (omega arith)

pub least_law : (t : ℕ → Bool) (n : ℕ) → Least t n (least t n)
unfolding least
least_law t zero = record { within = omega arith; passes = λ h. absurd (omega arith); before = λ j h. absurd (omega arith) }
least_law t (suc n) = front t n _ (t zero) refl (least_law (λ j. t (suc j)) n)

-- none that passes is before it
not_before : {t : ℕ → Bool} {n a k : ℕ} → Least t n a → t k ≡ true → a ≤ k
not_before {a = a} {k = k} l e = let h : ¬ (k < a) = λ h. true≢false (sym e ∙ l.before k h) in omega arith

pub least_first : (t : ℕ → Bool) (n k : ℕ) → t k ≡ true → least t n ≤ k
least_first t n k = not_before (least_law t n)

pub least_is : (t : ℕ → Bool) (n k : ℕ) → Least t n k → least t n ≡ k
least_is t n k l = le_antisymm (one_way (least_law t n) l) (one_way l (least_law t n))
  where
    one_way : {a b : ℕ} → Least t n a → Least t n b → a ≤ b
    one_way l m = ⊎_elim (λ e. rw e l.within) (λ h. not_before l (m.passes h)) (eq-or-lt_of_le m.within)

-- what passes and is the only one below n to pass is it
pub least_only : (t : ℕ → Bool) (n k : ℕ) → k < n → t k ≡ true → ((j : ℕ) → j < n → t j ≡ true → j ≡ k) → least t n ≡ k
least_only t n k h e only =
    let below : least t n < n = omega (arith, least_first t n k e) in
    only (least t n) below ((least_law t n).passes below)
