-- 01, "Held words, rule by rule": the words that sum and dot answer, over lists of words.
use Rattle.std.specs.Prelude.{ℕ, ◌+◌, ◌-◌, ◌*◌, ◌/◌, ◌%◌, ◌^◌, cond, List, [], ◌∷◌, map, length, ◌==◌, nat_le, nat_lt}
use Rattle.prime.specs.Modulus.{P}
use Rattle.words.specs.Words.{add_word, wide_word}

-- 01, refusal 5: "more than 4,096 words or pairs".
abbrev pub limit : ℕ
limit = 4096

-- The sum of the entries.
unfoldable pub total : List ℕ → ℕ
total [] = 0
total (x ∷ xs) = x + total xs

-- "sum": 0 for none; one word itself; two or three by add, left to right; four or more: reduce of the exact sum.
unfoldable pub sum_word : List ℕ → ℕ
sum_word [] = 0
sum_word (x ∷ []) = x
sum_word (x ∷ y ∷ []) = add_word x y
sum_word (x ∷ y ∷ z ∷ []) = add_word (add_word x y) z
sum_word (x ∷ y ∷ z ∷ w ∷ ws) = wide_word (total (x ∷ y ∷ z ∷ w ∷ ws))

-- The products of two lists, pair by pair.
unfoldable pub products : List ℕ → List ℕ → List ℕ
products [] [] = []
products [] (y ∷ ys) = []
products (x ∷ xs) [] = []
products (x ∷ xs) (y ∷ ys) = x * y ∷ products xs ys

-- "L the sum of the products' low 96 bits".
abbrev pub low_sum : List ℕ → ℕ
low_sum ps = total (map (λ (p : ℕ). p % 2 ^ 96) ps)

-- "H the sum of the parts above".
abbrev pub high_sum : List ℕ → ℕ
high_sum ps = total (map (λ (p : ℕ). p / 2 ^ 96) ps)

-- "L+P-H".
abbrev pub folded_sum : List ℕ → ℕ
folded_sum ps = low_sum ps + P - high_sum ps

-- The multiple of P that two pairs lose, P·(2^64+2^32-1).
abbrev pub offset : ℕ
offset = P * (2 ^ 64 + 2 ^ 32 - 1)

-- "exact S, less P·(2^64+2^32-1) if S is 2^128 or more".
abbrev pub less_offset : ℕ → ℕ
less_offset s = cond (nat_lt s (2 ^ 128)) s (s - offset)

-- "dot", of the products: 0 for none; one pair: mul; two pairs: exact S, less the offset if 2^128 or more, reduced; three or more: reduce of L+P-H.
unfoldable pub dot_products : List ℕ → ℕ
dot_products [] = 0
dot_products (p ∷ []) = wide_word p
dot_products (p ∷ q ∷ []) = wide_word (less_offset (p + q))
dot_products (p ∷ q ∷ s ∷ ps) = wide_word (folded_sum (p ∷ q ∷ s ∷ ps))

-- "dot" of two lists of one length.
abbrev pub dot_word : List ℕ → List ℕ → ℕ
dot_word xs ys = dot_products (products xs ys)

-- "dot tests 4, then 5"; 0 where it refuses neither.
abbrev pub dot_refusal : List ℕ → List ℕ → ℕ
dot_refusal xs ys = cond (length xs == length ys) (cond (nat_le (length xs) limit) 0 5) 4
