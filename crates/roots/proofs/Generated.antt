-- The generators: the table of the source is their rule, and the laws that document 01 gives.
use mathlib.Core.Path.{◌≡◌, refl, sym, ap, ◌∙◌}
use mathlib.Core.Bool.{true}
use Prim.Native.Nat.{ℕ, suc, ◌-◌, ◌*◌, ◌%◌, ◌^◌, ◌<◌}
use native.Mathlib.Nat.{two-pow-succ}
use native.Mathlib.Omega.{arith}
use lib.Dec.{lit<}
use lib.ListN.{get_or}
use Rattle.std.specs.Prelude.{◌==◌}
use Rattle.std.proofs.lemmas.Bool.{eqb-true, agree_below_at}
use Rattle.prime.specs.Modulus.{P}
use Rattle.prime.specs.Powers.{power}
use Rattle.prime.proofs.Fast.{fast, fast_power}
use Rattle.prime.proofs.Powers.{power_below, power_add}
use Rattle.roots.specs.Roots.{G, generator_word}
use Rattle.roots.specs.declared.generators.TheConstants.{TWO_ADIC_GENERATORS}

-- ---- the table

-- the checker computes each entry, by repeated squaring, and compares
pub table_at : (k : ℕ) → k < 33 → get_or TWO_ADIC_GENERATORS k 0 ≡ generator_word k
unfolding fast
table_at k h =
    eqb-true _ _ (agree_below_at (λ i. get_or TWO_ADIC_GENERATORS i 0 == fast P G (2 ^ (32 - i))) (λ _. true) 33 k refl h)
    ∙ fast_power P G (2 ^ (32 - k))

-- ---- the order of G is 2^32: G^(2^31) is not 1 yet, but -1

pub G_order : power P G (2 ^ 32) ≡ 1
unfolding fast
G_order = sym (fast_power P G (2 ^ 32))

pub G_half : power P G (2 ^ 31) ≡ P - 1
unfolding fast
G_half = sym (fast_power P G (2 ^ 31))

-- ---- the entries: 01's "entry 0 is 1, each later entry squares to the one before, entry 1 is P-1", and each is canonical

pub generator_zero : generator_word 0 ≡ 1
generator_zero = G_order

pub generator_squares : (k : ℕ) → k < 32 → generator_word (suc k) * generator_word (suc k) % P ≡ generator_word k
generator_squares k h =
    sym (power_add P G (2 ^ (32 - suc k)) (2 ^ (32 - suc k)))
    ∙ ap (power P G) (sym (two-pow-succ (32 - suc k)) ∙ ap (λ (n : ℕ). 2 ^ n) (let e : suc (32 - suc k) ≡ 32 - k = omega arith in e))

pub generator_one : generator_word 1 ≡ P - 1
generator_one = G_half

pub generator_below : (k : ℕ) → generator_word k < P
generator_below k = power_below P G (2 ^ (32 - k)) (lit< tt)
