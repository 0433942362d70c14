-- The outcomes that the functions' own contracts allow for a call. `X.Learnt` is the contract of the function X as the kit hands it to X's callers: of
-- lifetimes k, arguments a, answer r, and what the parameters hold at exit, t.
use Rattle.std.specs.Prelude.{◌≡◌, true, [], ◌∷◌, map, ℕ}
use Rattle.answers.specs.Answers.{Answer}
use Rattle.answers.specs.Answers.{refusal_of, word_of, coded_refusal, index_of}
use Rattle.goldilocks.proofs.add.Reads as fn_add
use Rattle.goldilocks.proofs.sub.Reads as fn_sub
use Rattle.goldilocks.proofs.neg.Reads as fn_neg
use Rattle.goldilocks.proofs.reduce128.Reads as fn_reduce128
use Rattle.goldilocks.proofs.mul.Reads as fn_mul
use Rattle.goldilocks.proofs.square.Reads as fn_square
use Rattle.goldilocks.proofs.halve.Reads as fn_halve
use Rattle.goldilocks.proofs.sum_array.Reads as fn_sum_array
use Rattle.goldilocks.proofs.dot_product.Reads as fn_dot_product
use Rattle.goldilocks.proofs.from_i64.Reads as fn_from_i64
use Rattle.goldilocks.proofs.from_u128.Reads as fn_from_u128
use Rattle.goldilocks.proofs.mul_2exp_u64.Reads as fn_mul_2exp_u64
use Rattle.goldilocks.proofs.div_2exp_u64.Reads as fn_div_2exp_u64
use Rattle.goldilocks.proofs.try_inverse.Reads as fn_try_inverse
use Rattle.goldilocks.proofs.try_sqrt.Reads as fn_try_sqrt
use Rattle.goldilocks.proofs.injective_exp_root_n.Reads as fn_injective_exp_root_n
use Rattle.goldilocks.proofs.two_adic_generator.Reads as fn_two_adic_generator
use Rattle.goldilocks.proofs.eq.Reads as fn_eq
use Rattle.goldilocks.proofs.cmp.Reads as fn_cmp
use Rattle.goldilocks.proofs.is_zero.Reads as fn_is_zero
use Rattle.goldilocks.proofs.slot.Reads as fn_slot
use Rattle.goldilocks.proofs.encode.Reads as fn_encode
use Rattle.goldilocks.proofs.as_canonical_u64.Reads as fn_as_canonical_u64
use Rattle.sequence.specs.Outcomes.{Outcome}
use Rattle.sequence.specs.Allows.{Allows, One, Two}
use Rattle.calls.specs.Calls.{Call, add, sub, neg, reduce, mul, square, halve, sum, dot, from_i64, from_limbs, shift_up, shift_down, inverse, square_root, seventh_root, generator, equal, compare, is_zero, slot, encode, canonical_form, Says, refusal, figure, truth, ordering, buffer, outcome, word, figured, said}

-- What is made of an answer that may be a refusal.
abbrev pub replied : Answer → Outcome Says ℕ
replied r = outcome (refusal (refusal_of r)) (word_of r ∷ [])

-- s gives the word at each place.
abbrev pub Allowed : Call → (ℕ → ℕ) → Outcome Says ℕ → Type 0
Allowed (add i j) s = Two fn_add.Learnt (s i) (s j) word
Allowed (sub i j) s = Two fn_sub.Learnt (s i) (s j) word
Allowed (neg i) s = One fn_neg.Learnt (s i) word
Allowed (reduce lo hi) s = Two fn_reduce128.Learnt (s lo) (s hi) word
Allowed (mul i j) s = Two fn_mul.Learnt (s i) (s j) word
Allowed (square i) s = One fn_square.Learnt (s i) word
Allowed (halve i) s = One fn_halve.Learnt (s i) word
Allowed (sum is) s = Allows fn_sum_array.Learnt (λ k a. a.0.now ≡ map s is) (λ k r t. replied r)
Allowed (dot is js) s = Allows fn_dot_product.Learnt (λ k a. (a.0.now ≡ map s is) × (a.1.0.now ≡ map s js)) (λ k r t. replied r)
Allowed (from_i64 z fits) s = One fn_from_i64.Learnt z word
Allowed (from_limbs lo hi) s = Two fn_from_u128.Learnt (s lo) (s hi) word
Allowed (shift_up i e) s = Two fn_mul_2exp_u64.Learnt (s i) e word
Allowed (shift_down i e) s = Two fn_div_2exp_u64.Learnt (s i) e word
Allowed (inverse i) s = One fn_try_inverse.Learnt (s i) replied
Allowed (square_root i) s = One fn_try_sqrt.Learnt (s i) replied
Allowed (seventh_root i) s = One fn_injective_exp_root_n.Learnt (s i) word
Allowed (generator k) s = One fn_two_adic_generator.Learnt k replied
Allowed (equal i j) s = Two fn_eq.Learnt (s i) (s j) (λ r. said (truth r))
Allowed (compare i j) s = Two fn_cmp.Learnt (s i) (s j) (λ r. said (ordering r))
Allowed (is_zero i) s = One fn_is_zero.Learnt (s i) (λ r. said (truth r))
Allowed (slot i bits) s = Two fn_slot.Learnt (s i) bits (λ r. outcome (figure (refusal_of r) (word_of r)) (word_of r ∷ []))
Allowed (encode is before) s = Allows fn_encode.Learnt (λ k a. (a.0.now ≡ map s is) × (a.1.0.now ≡ before)) (λ k r t. said (buffer (coded_refusal r) (index_of r) t.1.0.now))
Allowed (canonical_form i) s = One fn_as_canonical_u64.Learnt (s i) (figured true 0)
