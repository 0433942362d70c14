-- Signed numbers of 64 bits: what the machine reads after a test of the sign, and the words that they give.
use Rattle.std.proofs.Common.{◌≡◌, suc, ◌+◌, ◌-◌, ◌^◌, ◌≤◌, true, false, ℤ, pos, negsuc, sym, refl, ap, ◌∙◌, true≢false, arith, w64, SFits, to_z, of_z, ltb-false, ltb-true, le-leb}
use mathlib.Core.Bool.{false≢true}
use lib.Dec.{leb-zero}
use lib.Signed.{le_z, lt_z}
use borrow.Author.Tests.{lt-leb}
use mir.ValLaws.{to_z-of_z, to_z_pos}
use Rattle.prime.specs.Modulus.{P}
use Rattle.prime.specs.Elements.{residue}
use Rattle.prime.proofs.Theorems.{opposite}
use Rattle.answers.proofs.Stands.{Stands}
use Rattle.words.specs.Words.{from_i64_word, bound, in_range}

pub from_i64_stands : (z : ℤ) → SFits w64 z → Stands (residue z) (from_i64_word z)
from_i64_stands (pos n) f = record { below = omega (arith, f.sfits); element = refl }
from_i64_stands (negsuc n) f = record { below = omega arith; element = opposite (n + 1) (omega (arith, f.sfits)) }

-- a number that is not negative is its word
pub positive : (z : ℤ) → SFits w64 z → le_z (pos 0) (to_z w64 (of_z w64 z)) ≡ true → to_z w64 (of_z w64 z) ≡ pos (from_i64_word z)
positive (pos n) f t = to_z_pos w64 n f.sfits
positive (negsuc n) f t = absurd (false≢true (rw (to_z-of_z w64 (negsuc n) f) at t))

-- one that is negative is P - 1 less its bits turned over
pub negative : (z : ℤ) → SFits w64 z → le_z (pos 0) (to_z w64 (of_z w64 z)) ≡ false
    → (from_i64_word z ≤ P - 1) × (to_z w64 (2 ^ 64 - 1 - of_z w64 z) ≡ pos (P - 1 - from_i64_word z))
negative (pos n) f t = absurd (true≢false (sym (leb-zero n) ∙ (rw (to_z-of_z w64 (pos n) f) at t)))
negative (negsuc n) f t = (
  omega arith,
  ap (to_z w64) (let r : 2 ^ 64 - 1 - (2 ^ 64 - suc n) ≡ P - 1 - (P - (n + 1)) = omega (arith, f.sfits) in r)
      ∙ to_z_pos w64 (P - 1 - (P - (n + 1))) (omega (arith, f.sfits)),
)

-- the tests of the checked reader

pub below_range : (z : ℤ) → SFits w64 z → lt_z (to_z w64 (of_z w64 z)) (negsuc (bound - 1)) ≡ true → in_range z ≡ false
below_range (pos n) f t = absurd (false≢true (rw (to_z-of_z w64 (pos n) f) at t))
below_range (negsuc n) f t = lt-leb (n + 1) bound (omega (arith, ltb-true (bound - 1) n (rw (to_z-of_z w64 (negsuc n) f) at t)))

pub above_range : (z : ℤ) → SFits w64 z → lt_z (pos bound) (to_z w64 (of_z w64 z)) ≡ true → in_range z ≡ false
above_range (pos n) f t = lt-leb n bound (ltb-true bound n (rw (to_z-of_z w64 (pos n) f) at t))
above_range (negsuc n) f t = absurd (false≢true (rw (to_z-of_z w64 (negsuc n) f) at t))

pub within_range : (z : ℤ) → SFits w64 z → lt_z (to_z w64 (of_z w64 z)) (negsuc (bound - 1)) ≡ false → lt_z (pos bound) (to_z w64 (of_z w64 z)) ≡ false → in_range z ≡ true
within_range (pos n) f s t = le-leb n bound (ltb-false bound n (rw (to_z-of_z w64 (pos n) f) at t))
within_range (negsuc n) f s t = le-leb (n + 1) bound (omega (arith, ltb-false (bound - 1) n (rw (to_z-of_z w64 (negsuc n) f) at s)))
