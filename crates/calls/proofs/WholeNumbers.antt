-- What a reader would ask of the whole-number side, of numbers below P: `The f x d` is that d is below P, that f d = x, and that no other number below P
-- is so.
use mathlib.Core.Path.{◌≡◌, sym, subst, ◌∙◌}
use mathlib.Core.Bool.{true}
use mathlib.Core.Logic.{◌≢◌, ◌↔◌}
use Prim.Native.Nat.{ℕ, ◌+◌, ◌-◌, ◌*◌, ◌%◌, ◌^◌, ◌<◌}
use native.Mathlib.Nat.{mod-lt, mod-eq_of_lt}
use lib.Dec.{eqb, lit<}
use lib.IntN.{negsuc}
use Rattle.prime.specs.Modulus.{P}
use Rattle.prime.specs.Powers.{power}
use Rattle.prime.specs.Search.{least}
use Rattle.prime.proofs.Theorems.{inverse_power}
use Rattle.roots.specs.Roots.{is_square}
use Rattle.roots.proofs.SquareRootWord.{is_square_lem}
use Rattle.calls.specs.WholeNumbers.{The, minus, over, signed, has_root, candidate, root_of, seventh_root_of}
use Rattle.calls.proofs.FirstRoot.{first_squares}
use Rattle.calls.proofs.Solutions.{solved, difference, quotient, halved, shifted, seventh_rooted}

-- From i64: -(n + 1) and n + 1 make 0.
pub negative_sum : (n : ℕ) → The (λ d. (d + (n + 1)) % P) 0 (signed (negsuc n))
negative_sum n = solved (difference 0 (n + 1) (lit< tt))

module _ (x : ℕ) (h : x < P) where
  -- Sub: the difference and y make x.
  pub difference_sum : (y : ℕ) → The (λ d. (d + y) % P) x (minus x y)
  difference_sum y = solved (difference x y h)

  -- Neg: the negative and x make 0.
  pub opposite_sum : The (λ d. (d + x) % P) 0 (minus 0 x)
  opposite_sum = solved (difference 0 x (lit< tt))

  -- Halve: twice the half is x.
  pub half_product : The (λ d. d * 2 % P) x (over x 2)
  half_product = solved (halved x h)

  -- Shift down by k: times 2^k it is x.
  pub shift_product : (k : ℕ) → The (λ d. d * 2 ^ k % P) x (over x (2 ^ k))
  shift_product k = solved (shifted x h k)

  -- Inverse: where x is not 0, the product with x is 1.
  pub inverse_product : x ≢ 0 → The (λ d. d * x % P) 1 (over 1 x)
  inverse_product n = solved (quotient 1 x (lit< tt) (power P x (P - 2)) (inverse_power x (λ z. n (sym (mod-eq_of_lt h) ∙ z))))

  -- Square root: one is found exactly where some number squares to x, and then it is below P and squares to x.
  pub root_exists : (has_root x ≡ true) ↔ ((y : ℕ) × (y * y % P ≡ x))
  unfolding is_square
  root_exists = rw (mod-eq_of_lt h) at (is_square_lem x)

  pub root_square : has_root x ≡ true → (root_of x < P) × (root_of x * root_of x % P ≡ x)
  root_square t =
      let (y, e) = root_exists.0 t in (
        mod-lt _ (lit< tt),
        subst (λ (m : ℕ). let r : ℕ = candidate x (least (λ k. eqb (candidate x k * candidate x k % P) m) (2 ^ 31)) in r * r % P ≡ m) (mod-eq_of_lt h)
            (first_squares x (y, e ∙ sym (mod-eq_of_lt h))),
      )

  -- Seventh root: its seventh power is x.
  pub seventh_power : The (λ d. d ^ 7 % P) x (seventh_root_of x)
  seventh_power = solved (seventh_rooted x h)
