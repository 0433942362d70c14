-- W1 to W13 hold of the definitions. All but the roots are computed; a root is a search, so its powers are computed instead.
use mathlib.Core.Path.{◌≡◌, refl, sym, ap₂, ◌∙◌}
use mathlib.Core.List.{map}
use Prim.Native.Nat.{ℕ, ◌-◌, ◌*◌, ◌%◌, ◌^◌}
use native.Mathlib.Omega.{arith}
use lib.Dec.{lit<}
use Rattle.prime.specs.Modulus.{P}
use Rattle.prime.specs.Powers.{power}
use Rattle.prime.proofs.Fast.{fast, fast_power}
use Rattle.prime.proofs.Theorems.{generator_no_square}
use Rattle.words.specs.Words.{canonical, add_word, sub_word, neg_word, reduce_word, mul_word, halve_word}
use Rattle.shifts.specs.Shifts.{up_word, shift_up_word, split_word, down_word, shift_down_word}
use Rattle.sums.specs.Sums.{products, dot_products}
use Rattle.roots.specs.Roots.{G, root_word}
use Rattle.roots.proofs.SquareRootWord.{is_square_lem, not_square, root_is}
use Rattle.calls.specs.Placements.{given, placements}

-- a product of powers, computed
powers : (x d g e : ℕ) → power P x d * power P g e % P ≡ fast P x d * fast P g e % P
powers x d g e = ap₂ (λ (a b : ℕ). a * b % P) (sym (fast_power P x d)) (sym (fast_power P g e))

root_of_minus_one : root_word (P - 1) ≡ 2 ^ 48
unfolding fast
root_of_minus_one = root_is (P - 1) (2 ^ 30) (powers (P - 1) (2 ^ 32 - 1) G (2 ^ 31)) (λ e. omega (arith, e)) (lit< tt) ∙ powers (P - 1) (2 ^ 31) G (2 ^ 30)

root_of_P : root_word P ≡ 0
unfolding root_word
root_of_P = refl

pub worked : map given placements ≡ map (λ p. p.gives) placements
unfolding canonical add_word sub_word neg_word reduce_word mul_word halve_word up_word shift_up_word split_word down_word shift_down_word products dot_products
worked = rw (root_of_minus_one, root_of_P, (is_square_lem (P - 1)).1 (2 ^ 48, refl), (is_square_lem P).1 (0, refl), not_square 7 generator_no_square) refl
