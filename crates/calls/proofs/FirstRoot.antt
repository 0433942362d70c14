-- The root of a square as the first of its candidates x^(2^31)·G^h. A square x is y·y, and y^(2^32 - 1) is some G^k, so x^(2^32 - 1) is G^(k + k) and
-- an even exponent undoes it. A candidate squares to x only if its G^(h + h) undoes x^(2^32 - 1), so just one h below 2^31 will do.
use mathlib.Core.Path.{◌≡◌, sym, ap, ◌∙◌}
use mathlib.Core.Bool.{Bool}
use mathlib.Core.Logic.{◌≢◌, by_cases}
use Prim.Native.Nat.{ℕ, ◌+◌, ◌-◌, ◌*◌, ◌/◌, ◌%◌, ◌^◌, ◌<◌}
use native.Mathlib.Omega.{arith}
use native.Mathlib.Nat.{mul_comm, mul_assoc, mul-one, zero-mul, mod-mod, lt_of_le_of_lt}
use native.Mathlib.Decide.{ℕ_discrete}
use borrow.Author.Tests.{eqb-true, eq-eqb}
use lib.Dec.{eqb, lit<}
use Rattle.prime.specs.Modulus.{P, generator}
use Rattle.prime.specs.Powers.{power}
use Rattle.prime.specs.Residues.{Square}
use Rattle.prime.specs.Search.{least}
use Rattle.prime.proofs.Congruence.{zero_times}
use Rattle.prime.proofs.Powers.{power_same, power_times, power_of_zero}
use Rattle.prime.proofs.Theorems.{power_add, power_mul, power_base, power_rest, cancel, logarithm}
use Rattle.prime.proofs.Search.{least_law, least_first, least_only}
use Rattle.roots.specs.Roots.{G, root_word}
use Rattle.roots.proofs.Generated.{G_order}
use Rattle.roots.proofs.SquareRootOrder.{generated, undone_once}
use Rattle.roots.proofs.SquareRootWord.{squared, root_is, root_squares}
use Rattle.calls.specs.WholeNumbers.{candidate}

-- y is some 7^k, and 7^(2^32 - 1) is G, so y^(2^32 - 1) is G^k
power_of_G : (y : ℕ) → y % P ≢ 0 → (k : ℕ) × (power P y (2 ^ 32 - 1) ≡ power P G k)
power_of_G y nonzero =
    let (k, _, e) = logarithm y nonzero in
    let n : ℕ = 2 ^ 32 - 1 in
    (k, rw (← power_rest y n, ← e, ← power_mul generator k n, mul_comm k n, power_mul generator n k, generated))

-- a square has an even exponent
square_exponent : (x : ℕ) → x % P ≢ 0 → Square P x → (h : ℕ) × (h < 2 ^ 31) × (power P x (2 ^ 32 - 1) * power P G (h + h) % P ≡ 1)
square_exponent x nonzero (y, e) =
    let (k, q) = power_of_G y (λ z. nonzero (sym e ∙ zero_times P y y z)) in
    let n : ℕ = 2 ^ 32 - 1 in
    let h : ℕ = (2 ^ 31 - 1) * k % 2 ^ 31 in
    let c : ℕ = k - (2 ^ 31 - 1) * k / 2 ^ 31 in
    let doubled : power P x n ≡ power P G (k + k) = power_same P x (y * y) n (sym e) ∙ power_base y y n ∙ rw (q, ← power_add G k k) in
    let whole : k + k + (h + h) ≡ 2 ^ 32 * c = omega arith in
    (h, omega arith, rw (doubled, ← power_add G (k + k) (h + h), whole) (power_times P G (2 ^ 32) c (lit< tt) G_order))

-- the first h whose candidate squares to x
abbrev squares : ℕ → ℕ → Bool
squares x h = eqb (candidate x h * candidate x h % P) (x % P)

abbrev pub first : ℕ → ℕ
first x = least (squares x) (2 ^ 31)

module _ (x : ℕ) (nonzero : x % P ≢ 0) where
  -- the G^(h + h) of a candidate that squares to x undoes x^(2^32 - 1), since x cancels
  undone : (h : ℕ) → candidate x h * candidate x h % P ≡ x % P → power P x (2 ^ 32 - 1) * power P G (h + h) % P ≡ 1
  undone h e =
      let a : ℕ = power P x (2 ^ 32 - 1) in
      let g : ℕ = power P G (h + h) in
      cancel x (a * g) 1 nonzero (rw (← mul_assoc x a g, mul-one x) (sym (squared x h _ (mod-mod _ P)) ∙ e))

  -- the h that undoes it is the only one below 2^31, so the search meets it
  first_is : (h : ℕ) → h < 2 ^ 31 → power P x (2 ^ 32 - 1) * power P G (h + h) % P ≡ 1 → first x ≡ h
  first_is h below one =
      least_only _ (2 ^ 31) h below (eq-eqb _ _ (root_squares x h one _ (mod-mod _ P))) (λ j l t.
      let twice : j + j ≡ h + h = undone_once _ (j + j) (h + h) (omega arith) (omega arith) (undone j (eqb-true _ _ t)) one in
      omega arith)

-- so some candidate squares to a square, and document 01's root is the first that does
module _ (x : ℕ) (s : Square P x) where
  some : (h : ℕ) × (h < 2 ^ 31) × (candidate x h * candidate x h % P ≡ x % P)
  some =
      by_cases (ℕ_discrete (x % P) 0)
      (λ z. (0, lit< tt, rw (power_of_zero P x (2 ^ 31) (lit< tt) z, zero-mul, z)))
      (λ nonzero. let (h, below, one) = square_exponent x nonzero s in (h, below, root_squares x h one _ (mod-mod _ P)))

  pub first_squares : candidate x (first x) * candidate x (first x) % P ≡ x % P
  first_squares =
      let (h, below, e) = some in
      eqb-true _ _ ((least_law (squares x) (2 ^ 31)).passes (lt_of_le_of_lt (least_first (squares x) (2 ^ 31) h (eq-eqb _ _ e)) below))

  pub root_first : root_word x ≡ candidate x (first x)
  unfolding root_word
  root_first =
      by_cases (ℕ_discrete (x % P) 0)
      (λ z. rw (eq-eqb (x % P) 0 z, power_of_zero P x (2 ^ 31) (lit< tt) z, zero-mul))
      (λ nonzero.
      let (h, below, one) = square_exponent x nonzero s in
      root_is x h one nonzero (omega arith) ∙ ap (candidate x) (sym (first_is x nonzero h below one)))
