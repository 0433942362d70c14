-- What those above may know of the words that are answered: each is below 2^64, and modulo P it is what arithmetic says.
use Rattle.std.proofs.Common.{◌≡◌, ℕ, ◌+◌, ◌-◌, ◌*◌, ◌/◌, ◌%◌, ◌^◌, ◌<◌, true, eqb, ◌↔◌, refl, ap, ◌∙◌, ap₂, lt_of_le_of_lt, mod-lt, mod-eq_of_lt, arith, lit<, pow_pos, shr_lt, eq-eqb, eqb-true}
use native.Mathlib.Nat.{mod-add-div, mod-le, mod-mod}
use Rattle.prime.specs.Modulus.{P}
use Rattle.prime.specs.Elements.{half}
use Rattle.prime.proofs.Congruence.{same, add_same, mul_same_right}
use Rattle.prime.proofs.Theorems.{opposite}
use Rattle.prime.proofs.Halves.{half_of}
use Rattle.prime.proofs.Choice.{by_lt, by_le, by_eq}
use Rattle.answers.specs.Promises.{Seen}
use Rattle.answers.proofs.Stands.{Stands, to}
use Rattle.limbs.specs.Limbs.{limbs}
use Rattle.limbs.proofs.Products.{product_below}
use Rattle.words.specs.Words.{canonical, less_P, plus_P, add_word, sub_word, neg_word, reduce_word, wide_word, mul_word, halve_word, from_u128_word}
use Rattle.words.proofs.Corrections.{less_below, less_element, plus_stands}

-- the canonical form is the remainder by P

pub canonical_is : (x : ℕ) → x < 2 ^ 64 → canonical x ≡ x % P
unfolding canonical
canonical_is x h = by_lt (λ (n : ℕ). n ≡ x % P) x P (λ t. omega arith) (λ t. omega arith)

pub canonical_stands : (x : ℕ) → x < 2 ^ 64 → Stands (x % P) (canonical x)
canonical_stands x h = record { below = omega (arith, canonical_is x h); element = omega (arith, canonical_is x h) }

-- so what is seen by canonical forms is seen by the elements
pub seen : {A : Type 0} (f : ℕ → ℕ → A) (x y : ℕ) {a b : ℕ} {r : A} → x < 2 ^ 64 → y < 2 ^ 64 → a ≡ canonical x → b ≡ canonical y → r ≡ f a b
    → Seen (f (canonical x) (canonical y)) (f (x % P) (y % P)) r
seen f x y h k p q e = record {
  canonical = e ∙ ap₂ f p q;
  element = e ∙ ap₂ f (p ∙ canonical_is x h) (q ∙ canonical_is y k);
}

-- and words are equal exactly if they agree modulo P
pub equal_iff : (x y : ℕ) → x < 2 ^ 64 → y < 2 ^ 64 → (eqb (canonical x) (canonical y) ≡ true) ↔ (x % P ≡ y % P)
equal_iff x y h k = rw (canonical_is x h, canonical_is y k) (eqb-true (x % P) (y % P), eq-eqb (x % P) (y % P))

-- sums, differences, negatives, halves

pub add_stands : (x y : ℕ) → x < 2 ^ 64 → y < 2 ^ 64 → Stands ((x + y) % P) (add_word x y)
unfolding add_word
add_stands x y h k = record {
  below = less_below 0 (less_P (x + y)) (less_below P (x + y) (omega arith));
  element = less_element (less_P (x + y)) ∙ less_element (x + y);
}

pub sub_stands : (x y : ℕ) → x < 2 ^ 64 → y < 2 ^ 64 → Stands ((x + (P - 1) * y) % P) (sub_word x y)
unfolding sub_word
sub_stands x y h k = by_le (Stands ((x + (P - 1) * y) % P)) y x
    (λ t. record { below = omega arith; element = same P _ _ y 0 (omega arith) })
    (λ t. to (same P (x + P + (P - 1) * y) (x + (P - 1) * y) 0 1 (omega arith)) (plus_stands (x + P) y (omega arith) (omega arith)))

pub neg_stands : (x : ℕ) → x < 2 ^ 64 → Stands ((P - 1) * x % P) (neg_word x)
unfolding neg_word
neg_stands x h = record {
  below = omega arith;
  element = ap (λ (n : ℕ). (P - n) % P) (canonical_is x h) ∙ opposite (x % P) (omega arith) ∙ mul_same_right P (P - 1) (x % P) x (mod-mod x P);
}

pub halve_stands : (x : ℕ) → x < 2 ^ 64 → Stands (x * half % P) (halve_word x)
unfolding halve_word
halve_stands x h = by_eq (Stands (x * half % P)) (x % 2) 0
    (λ t. record { below = omega arith; element = half_of P half 0 _ x refl (omega arith) })
    (λ t. record { below = omega arith; element = half_of P half 1 _ x refl (omega arith) })

-- reduction and products

-- modulo P, 2^64 is 2^32 - 1 and 2^96 is -1
folded : (t lo hi : ℕ) → t % P ≡ (lo + (P - 1) * (hi / 2 ^ 32)) % P → (t + hi % 2 ^ 32 * (2 ^ 32 - 1)) % P ≡ (lo + 2 ^ 64 * hi) % P
folded t lo hi e = add_same P t _ (lo + (P - 1) * (hi / 2 ^ 32)) _ e refl ∙ same P _ (lo + 2 ^ 64 * hi) hi 0 (omega arith)

pub reduce_stands : (lo hi : ℕ) → lo < 2 ^ 64 → hi < 2 ^ 64 → Stands (limbs lo hi % P) (reduce_word lo hi)
unfolding reduce_word
reduce_stands lo hi h k = whole (plus_P lo (hi / 2 ^ 32)) (plus_stands lo (hi / 2 ^ 32) (omega arith) (omega arith))
  where
    whole : (t : ℕ) → Stands ((lo + (P - 1) * (hi / 2 ^ 32)) % P) t → Stands ((lo + 2 ^ 64 * hi) % P) (less_P (t + hi % 2 ^ 32 * (2 ^ 32 - 1)))
    whole t s = record {
      below = less_below 0 (t + hi % 2 ^ 32 * (2 ^ 32 - 1)) (omega (arith, s.below));
      element = less_element _ ∙ folded t lo hi s.element;
    }

pub wide_stands : (n : ℕ) → n < 2 ^ 128 → Stands (n % P) (wide_word n)
wide_stands n h = rw (mod-add-div n (2 ^ 64)) at (reduce_stands (n % 2 ^ 64) (n / 2 ^ 64) (mod-lt n (pow_pos 64)) (shr_lt 64 64 h))

pub mul_stands : (x y : ℕ) → x < 2 ^ 64 → y < 2 ^ 64 → Stands (x * y % P) (mul_word x y)
unfolding mul_word
mul_stands x y h k = wide_stands (x * y) (product_below 64 h k)

pub from_u128_stands : (lo hi : ℕ) → lo < 2 ^ 64 → hi < 2 ^ 64 → Stands (limbs lo hi % P) (from_u128_word lo hi)
unfolding from_u128_word
from_u128_stands lo hi h k =
    to (reduce_stands lo hi h k).element (canonical_stands (reduce_word lo hi) (reduce_stands lo hi h k).below)

-- slots: the low k bits of the canonical form are those of the element

pub slot_stands : (x k : ℕ) → x < 2 ^ 64 → Stands (x % P % 2 ^ k) (canonical x % 2 ^ k)
slot_stands x k h = rw (canonical_is x h) (record { below = omega (arith, low); element = mod-eq_of_lt low })
  where
    low : x % P % 2 ^ k < P
    low = lt_of_le_of_lt (mod-le (x % P) (2 ^ k)) (mod-lt x (lit< tt))
