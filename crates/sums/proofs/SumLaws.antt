-- The words that sum and dot answer: modulo P each is the sum.
use Rattle.std.proofs.Common.{◌≡◌, ℕ, ◌+◌, ◌*◌, ◌%◌, ◌^◌, ◌<◌, ◌≤◌, false, List, [], ◌∷◌, length, sym, refl, lt_of_le_of_lt, sub-le, arith, lit<, ne_eqb}
use Rattle.std.proofs.lemmas.Bool.Decides.{nat_tests}
use Rattle.std.specs.Prelude.{Err}
use Rattle.prime.specs.Modulus.{P}
use Rattle.answers.specs.declared.refusals.Refusal.TheVariants.{LengthsDiffer}
use Rattle.answers.proofs.Stands.{Stands, itself, to, refused}
use Rattle.limbs.specs.Limbs.{largest}
use Rattle.words.specs.Words.{Words, add_word, wide_word}
use Rattle.words.proofs.Laws.{add_stands, wide_stands}
use Rattle.sums.specs.Sums.{limit, total, sum_word, low_sum, high_sum, folded_sum, less_offset, dot_products}
use Rattle.sums.specs.Promises.{Dotted}
use Rattle.sums.proofs.Totals.{Products, total_fits, low_fits, high_fits}

-- ---- the rule of sum, by the number of words

-- four words or more
pub sum_more : (ws : List ℕ) → 3 < length ws → wide_word (total ws) ≡ sum_word ws
unfolding sum_word
sum_more [] h = omega arith
sum_more (x ∷ []) h = omega arith
sum_more (x ∷ y ∷ []) h = omega arith
sum_more (x ∷ y ∷ z ∷ []) h = omega arith
sum_more (x ∷ y ∷ z ∷ w ∷ ws) h = refl

pub sum_stands : (ws : List ℕ) → Words ws → length ws ≤ limit → Stands (total ws % P) (sum_word ws)
unfolding total sum_word
sum_stands [] h l = itself 0 (lit< tt)
sum_stands (x ∷ []) h l = to (omega arith) (itself x h.0)
sum_stands (x ∷ y ∷ []) h l = to (omega arith) (add_stands x y h.0 h.1.0)
sum_stands (x ∷ y ∷ z ∷ []) h l =
    let two : Stands ((x + y) % P) (add_word x y) = add_stands x y h.0 h.1.0 in
    to (omega (arith, two.element)) (add_stands (add_word x y) z two.below h.1.1.0)
sum_stands (x ∷ y ∷ z ∷ w ∷ ws) h l = wide_stands (total (x ∷ y ∷ z ∷ w ∷ ws)) (total_fits (x ∷ y ∷ z ∷ w ∷ ws) h (lt_of_le_of_lt l (lit< tt)))

-- ---- the rule of dot, by the number of pairs

-- three pairs or more
pub dot_more : (ps : List ℕ) → 2 < length ps → dot_products ps ≡ wide_word (folded_sum ps)
unfolding dot_products
dot_more [] h = omega arith
dot_more (p ∷ []) h = omega arith
dot_more (p ∷ q ∷ []) h = omega arith
dot_more (p ∷ q ∷ s ∷ ps) h = refl

-- what two pairs lose is a multiple of P
less_same : (s : ℕ) → less_offset s % P ≡ s % P
less_same s = grind (arith, nat_tests)

two_stand : (p q : ℕ) → p ≤ largest 64 → q ≤ largest 64 → Stands ((p + q) % P) (wide_word (less_offset (p + q)))
two_stand p q h k = to (less_same (p + q)) (wide_stands (less_offset (p + q)) (grind (arith, nat_tests)))

-- 2^96 is -1 modulo P, so that the parts above 96 bits are taken away
parts_total : (ps : List ℕ) → total ps ≡ low_sum ps + 2 ^ 96 * high_sum ps
unfolding total
parts_total [] = refl
parts_total (p ∷ ps) = omega (arith, parts_total ps)

-- and so modulo P the folded sum is the sum
pub folded_same : (ps : List ℕ) → high_sum ps ≤ P → total ps % P ≡ folded_sum ps % P
folded_same ps h = omega (arith, parts_total ps)

pub dot_stands : (ps : List ℕ) → Products ps → length ps ≤ limit → Stands (total ps % P) (dot_products ps)
unfolding total dot_products
dot_stands [] h l = itself 0 (lit< tt)
dot_stands (p ∷ []) h l = to (omega arith) (wide_stands p (lt_of_le_of_lt h.0 (lit< tt)))
dot_stands (p ∷ q ∷ []) h l = to (omega arith) (two_stand p q h.0 h.1.0)
dot_stands (p ∷ q ∷ s ∷ ps) h l =
    let all : List ℕ = p ∷ q ∷ s ∷ ps in
    to (sym (folded_same all (high_fits all h l))) (wide_stands (folded_sum all) (lt_of_le_of_lt (sub-le (low_sum all + P) (high_sum all)) (low_fits all h l)))

-- lists that are not paired
pub lengths_differ : (xs ys : List ℕ) → (length xs ≡ length ys → ⊥) → Dotted xs ys (Err LengthsDiffer)
lengths_differ xs ys n = rw (ne_eqb (length xs) (length ys) n) (refused false LengthsDiffer refl)
