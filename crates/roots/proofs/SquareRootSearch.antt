-- The search for the order of t squares y = t^(2^i) while it is not 1. So where y is 1, i is the least such number, and at m there is none below.
use mathlib.Core.Path.{◌≡◌, sym, ap, ◌∙◌}
use mathlib.Core.Bool.{Bool, true, false}
use Prim.Native.Nat.{ℕ, ◌+◌, ◌*◌, ◌%◌, ◌^◌, ◌≤◌, ◌<◌}
use native.Mathlib.Omega.{arith}
use borrow.Author.Count.{below_more}
use lib.Dec.{eqb}
use Rattle.prime.specs.Modulus.{P}
use Rattle.prime.specs.Powers.{power}
use Rattle.prime.proofs.Search.{Least, least_law, least_is}
use Rattle.roots.specs.Roots.{order_log}
use Rattle.roots.proofs.Exponents.{Raised, first, doubled}

-- t^(2^k) is 1
abbrev pub is_one : ℕ → ℕ → Bool
is_one t k = eqb (power P t (2 ^ k)) 1

-- what is known of the definition
pub found : (t m i : ℕ) → i ≡ order_log t m → Least (is_one t) m i
unfolding order_log
found t m i e = rw e (least_law (is_one t) m)

-- ---- the loop

pub record Searching (t i y : ℕ) : Type 0 where
  pub reached : Raised t (2 ^ i) y
  pub passed : (j : ℕ) → j < i → is_one t j ≡ false

pub begin : (t : ℕ) → Searching t 0 t
begin t = record { reached = first t; passed = λ j h. absurd (omega arith) }

module _ {t i y : ℕ} (s : Searching t i y) where
  here : is_one t i ≡ eqb (y % P) 1
  here = ap (λ (n : ℕ). eqb n 1) (sym s.reached.power_is)

  pub next : (z : ℕ) → eqb (y % P) 1 ≡ false → z % P ≡ y * y % P → Searching t (i + 1) z
  next z e q = record { reached = doubled i s.reached q; passed = below_more _ i s.passed (here ∙ e) }

  pub hit : (m : ℕ) → eqb (y % P) 1 ≡ true → i < m → i ≡ order_log t m
  unfolding order_log
  hit m e h = sym (least_is (is_one t) m i (record { within = omega arith; passes = λ _. here ∙ e; before = s.passed }))

  pub miss : (m : ℕ) → m ≤ i → order_log t m ≡ m
  unfolding order_log
  miss m h = least_is (is_one t) m m (record { within = omega arith; passes = λ l. absurd (omega arith); before = λ j l. s.passed j (omega arith) })
