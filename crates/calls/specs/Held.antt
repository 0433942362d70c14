-- How the calls are answered in held words, by the definitions that the contracts of the functions name.
use Rattle.std.specs.Prelude.{true, not, List, map, ℕ, ◌%◌, ◌^◌, ◌==◌, nat_le, length}
use Rattle.prime.specs.Modulus.{P}
use Rattle.answers.specs.Answers.{kept}
use Rattle.words.specs.Words.{canonical, add_word, sub_word, neg_word, reduce_word, mul_word, halve_word, from_i64_word, from_u128_word}
use Rattle.words.specs.Orders.{order}
use Rattle.shifts.specs.Shifts.{shift_up_word, shift_down_word}
use Rattle.sums.specs.Sums.{limit, sum_word, dot_word, dot_refusal}
use Rattle.roots.specs.Roots.{inverse_word, is_square, root_word, seventh_word, generator_word}
use Rattle.wire.specs.Wire.{encoded}
use Rattle.wire.specs.Refusals.{sizes}
use Rattle.sequence.specs.Outcomes.{Outcome}
use Rattle.calls.specs.Calls.{Call, add, sub, neg, reduce, mul, square, halve, sum, dot, from_i64, from_limbs, shift_up, shift_down, inverse, square_root, seventh_root, generator, equal, compare, is_zero, slot, encode, canonical_form, Says, truth, ordering, buffer, word, answered, figured, said}

-- The sum of the words ws.
abbrev pub sum_outcome : List ℕ → Outcome Says ℕ
sum_outcome ws = answered (nat_le (length ws) limit) 5 (sum_word ws)

-- The dot product of xs and ys.
abbrev pub dot_outcome : List ℕ → List ℕ → Outcome Says ℕ
dot_outcome xs ys = answered (dot_refusal xs ys == 0) (dot_refusal xs ys) (dot_word xs ys)

-- The inverse of x.
abbrev pub inverse_outcome : ℕ → Outcome Says ℕ
inverse_outcome x = answered (not (x % P == 0)) 2 (inverse_word x)

-- The square root of x.
abbrev pub root_outcome : ℕ → Outcome Says ℕ
root_outcome x = answered (is_square x) 3 (root_word x)

-- The generator of 2^k elements.
abbrev pub generator_outcome : ℕ → Outcome Says ℕ
generator_outcome k = answered (nat_le k 32) 7 (generator_word k)

-- The slot of k bits.
abbrev pub slot_outcome : ℕ → ℕ → Outcome Says ℕ
slot_outcome x k = figured (nat_le k 32) 7 (canonical x % 2 ^ k)

-- The words ws, written into a buffer.
abbrev pub encode_outcome : List ℕ → List ℕ → Outcome Says ℕ
encode_outcome ws before = said (buffer (sizes (length ws) (length before)) 0 (kept (sizes (length ws) (length before)) (encoded ws) before))

-- s gives the word at each place.
abbrev pub held : Call → (ℕ → ℕ) → Outcome Says ℕ
held (add i j) s = word (add_word (s i) (s j))
held (sub i j) s = word (sub_word (s i) (s j))
held (neg i) s = word (neg_word (s i))
held (reduce lo hi) s = word (reduce_word (s lo) (s hi))
held (mul i j) s = word (mul_word (s i) (s j))
held (square i) s = word (mul_word (s i) (s i))
held (halve i) s = word (halve_word (s i))
held (sum is) s = sum_outcome (map s is)
held (dot is js) s = dot_outcome (map s is) (map s js)
held (from_i64 z fits) s = word (from_i64_word z)
held (from_limbs lo hi) s = word (from_u128_word (s lo) (s hi))
held (shift_up i e) s = word (shift_up_word (s i) e)
held (shift_down i e) s = word (shift_down_word (s i) e)
held (inverse i) s = inverse_outcome (s i)
held (square_root i) s = root_outcome (s i)
held (seventh_root i) s = word (seventh_word (s i))
held (generator k) s = generator_outcome k
held (equal i j) s = said (truth (canonical (s i) == canonical (s j)))
held (compare i j) s = said (ordering (order (canonical (s i)) (canonical (s j))))
held (is_zero i) s = said (truth (canonical (s i) == 0))
held (slot i k) s = slot_outcome (s i) k
held (encode is before) s = encode_outcome (map s is) before
held (canonical_form i) s = figured true 0 (canonical (s i))
