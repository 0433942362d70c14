-- A function that keeps the numbers below n below n, and never takes two of them to one, reaches each of them.
use mathlib.Core.Path.{◌≡◌, refl, sym, ap}
use mathlib.Core.Logic.{◌⊎◌, inl, inr, ◌≢◌}
use mathlib.Core.Bool.{Bool, true, false, cond}
use Prim.Native.Nat.{ℕ, zero, suc, ◌<◌}
use native.Mathlib.Omega.{arith}
use native.Mathlib.Nat.{not-suc-le-zero, zero-lt-suc, lt-suc_self, suc-ne-zero, suc_inj, le_of_suc-le-suc}
use native.Mathlib.Decide.{ℕ_discrete}
use lib.Dec.{eqb}
use borrow.Author.Tests.{eqb-true, eqb-false}

abbrev Into : ℕ → (ℕ → ℕ) → ℕ → Type 0
Into n f m = (i : ℕ) → i < n → f i < m

abbrev Injective : ℕ → (ℕ → ℕ) → Type 0
Injective n f = (i j : ℕ) → i < n → j < n → f i ≡ f j → i ≡ j

abbrev Hit : ℕ → (ℕ → ℕ) → ℕ → Type 0
Hit n f y = (i : ℕ) × (i < n) × (f i ≡ y)

abbrev Missed : ℕ → (ℕ → ℕ) → ℕ → Type 0
Missed n f y = (i : ℕ) → i < n → f i ≢ y

-- v where y is k, and else y
move : ℕ → ℕ → ℕ → ℕ
move k v y = cond (eqb y k) v y

abbrev Moved : ℕ → ℕ → ℕ → ℕ → Type 0
Moved k v y z = ((y ≡ k) × (z ≡ v)) ⊎ ((y ≢ k) × (z ≡ y))

moved : (k v y : ℕ) → Moved k v y (move k v y)
unfolding move
moved k v y = go (eqb y k) refl
  where
    go : (t : Bool) → eqb y k ≡ t → Moved k v y (cond t v y)
    go true e = inl (eqb-true y k e, refl)
    go false e = inr (eqb-false y k e, refl)

-- n + 1 numbers do not fit below n: drop the first, and let whoever went to n - 1 go where the first went
crowded : (n : ℕ) (f : ℕ → ℕ) → Into (suc n) f n → Injective (suc n) f → ⊥
crowded zero f into inj = not-suc-le-zero (into 0 (lt-suc_self 0))
crowded (suc k) f into inj = crowded k f' (λ i h. fits i h (moved k (f 0) (f (suc i)))) one
  where
    f' : ℕ → ℕ
    f' i = move k (f 0) (f (suc i))

    first : (i : ℕ) → i < suc k → f (suc i) ≢ f 0
    first i h e = suc-ne-zero i (inj (suc i) 0 (omega arith) (omega arith) e)

    fits : (i : ℕ) → i < suc k → Moved k (f 0) (f (suc i)) (f' i) → f' i < k
    fits i h (inl p) = omega (arith, first i h, into 0 (zero-lt-suc (suc k)))
    fits i h (inr p) = omega (arith, into (suc i) (omega arith))

    same : (i j : ℕ) → i < suc k → j < suc k → f' i ≡ f' j → Moved k (f 0) (f (suc i)) (f' i) → Moved k (f 0) (f (suc j)) (f' j)
        → f (suc i) ≡ f (suc j)
    same i j hi hj e (inl p) (inl q) = omega arith
    same i j hi hj e (inl p) (inr q) = omega (arith, first j hj)
    same i j hi hj e (inr p) (inl q) = omega (arith, first i hi)
    same i j hi hj e (inr p) (inr q) = omega arith

    one : Injective (suc k) f'
    one i j hi hj e =
        suc_inj (inj (suc i) (suc j) (omega arith) (omega arith)
        (same i j hi hj e (moved k (f 0) (f (suc i))) (moved k (f 0) (f (suc j)))))

-- some number below n goes to y or none does
find : (n : ℕ) (f : ℕ → ℕ) (y : ℕ) → Hit n f y ⊎ Missed n f y
find zero f y = inr (λ i h. absurd (not-suc-le-zero h))
find (suc n) f y = go (ℕ_discrete (f 0) y) (find n (λ i. f (suc i)) y)
  where
    go : Dec (f 0 ≡ y) → Hit n (λ i. f (suc i)) y ⊎ Missed n (λ i. f (suc i)) y → Hit (suc n) f y ⊎ Missed (suc n) f y
    go (yes e) r = inl (0, zero-lt-suc n, e)
    go (no d) (inl (i, l, e)) = inl (suc i, omega arith, e)
    go (no d) (inr none) = inr (elim [ zero ↦ λ h. d | suc i ↦ λ h. none i (le_of_suc-le-suc h) ])

-- y, and then the values of f
ahead : ℕ → (ℕ → ℕ) → ℕ → ℕ
ahead y f zero = y
ahead y f (suc i) = f i

-- if none went to y, y and the values of f would be n + 1 numbers below n
pub onto : (n : ℕ) (f : ℕ → ℕ) → Into n f n → Injective n f → (y : ℕ) → y < n → Hit n f y
unfolding ahead
onto n f into inj y h = go (find n f y)
  where
    go : Hit n f y ⊎ Missed n f y → Hit n f y
    go (inl p) = p
    go (inr none) = absurd (crowded n (ahead y f) below apart)
      where
        below : Into (suc n) (ahead y f) n
        below zero _ = h
        below (suc i) l = into i (le_of_suc-le-suc l)

        apart : Injective (suc n) (ahead y f)
        apart zero zero k l e = refl
        apart zero (suc j) k l e = absurd (none j (le_of_suc-le-suc l) (sym e))
        apart (suc i) zero k l e = absurd (none i (le_of_suc-le-suc k) e)
        apart (suc i) (suc j) k l e = ap suc (inj i j (le_of_suc-le-suc k) (le_of_suc-le-suc l) e)
