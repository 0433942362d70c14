-- How the calls are answered in whole numbers below P, from arithmetic alone.
use Rattle.std.specs.Prelude.{◌≡◌, Bool, true, not, ℕ, ◌+◌, ◌-◌, ◌*◌, ◌%◌, ◌^◌, ◌<◌, ◌==◌, nat_le, nat_lt, ℤ, pos, negsuc, length}
use mathlib.Core.List.{map, flat_map}
use Rattle.prime.specs.Modulus.{P}
use Rattle.prime.specs.Powers.{power}
use Rattle.prime.specs.Search.{least}
use Rattle.answers.specs.Answers.{kept}
use Rattle.words.specs.Orders.{order}
use Rattle.sums.specs.Sums.{limit, total, products, dot_refusal}
use Rattle.roots.specs.Roots.{G}
use Rattle.wire.specs.Wire.{bytes_of}
use Rattle.wire.specs.Refusals.{sizes}
use Rattle.sequence.specs.Outcomes.{Outcome}
use Rattle.calls.specs.Calls.{Call, add, sub, neg, reduce, mul, square, halve, sum, dot, from_i64, from_limbs, shift_up, shift_down, inverse, square_root, seventh_root, generator, equal, compare, is_zero, slot, encode, canonical_form, Says, truth, ordering, buffer, word, answered, figured, said}

-- The d below P with f d = x, P if there is none.
abbrev pub solve : (ℕ → ℕ) → ℕ → ℕ
solve f x = least (λ d. f d == x) P

-- d is the one number below P with f d = x.
pub record The (f : ℕ → ℕ) (x d : ℕ) : Type 0 where
  pub below : d < P
  pub solves : f d ≡ x
  pub only : (j : ℕ) → j < P → f j ≡ x → j ≡ d

-- x - y: the d with d + y = x.
abbrev pub minus : ℕ → ℕ → ℕ
minus x y = solve (λ d. (d + y) % P) x

-- x / y: the d with d·y = x.
abbrev pub over : ℕ → ℕ → ℕ
over x y = solve (λ d. d * y % P) x

-- A signed number; negsuc n is -(n + 1).
abbrev pub signed : ℤ → ℕ
signed (pos n) = n % P
signed (negsuc n) = minus 0 (n + 1)

-- Whether some d has d·d = x.
abbrev pub has_root : ℕ → Bool
has_root x = nat_lt (solve (λ d. d * d % P) x) P

-- x^(2^31)·G^h.
abbrev pub candidate : ℕ → ℕ → ℕ
candidate x h = power P x (2 ^ 31) * power P G h % P

-- The square root that document 01 takes: the first of these, from h = 0 on, whose square is x.
abbrev pub root_of : ℕ → ℕ
root_of x = candidate x (least (λ h. candidate x h * candidate x h % P == x) (2 ^ 31))

-- The seventh root: the d with d^7 = x.
abbrev pub seventh_root_of : ℕ → ℕ
seventh_root_of x = solve (λ d. d ^ 7 % P) x

-- e gives the whole number at each place.
abbrev pub whole : Call → (ℕ → ℕ) → Outcome Says ℕ
whole (add i j) e = word ((e i + e j) % P)
whole (sub i j) e = word (minus (e i) (e j))
whole (neg i) e = word (minus 0 (e i))
whole (reduce lo hi) e = word ((e lo + 2 ^ 64 * e hi) % P)
whole (mul i j) e = word (e i * e j % P)
whole (square i) e = word (e i * e i % P)
whole (halve i) e = word (over (e i) 2)
whole (sum is) e = answered (nat_le (length is) limit) 5 (total (map e is) % P)
whole (dot is js) e = answered (dot_refusal is js == 0) (dot_refusal is js) (total (products (map e is) (map e js)) % P)
whole (from_i64 z fits) e = word (signed z)
whole (from_limbs lo hi) e = word ((e lo + 2 ^ 64 * e hi) % P)
whole (shift_up i k) e = word (e i * 2 ^ k % P)
whole (shift_down i k) e = word (over (e i) (2 ^ k))
whole (inverse i) e = answered (not (e i == 0)) 2 (over 1 (e i))
whole (square_root i) e = answered (has_root (e i)) 3 (root_of (e i))
whole (seventh_root i) e = word (seventh_root_of (e i))
whole (generator k) e = answered (nat_le k 32) 7 (power P G (2 ^ (32 - k)))
whole (equal i j) e = said (truth (e i == e j))
whole (compare i j) e = said (ordering (order (e i) (e j)))
whole (is_zero i) e = said (truth (e i == 0))
whole (slot i k) e = figured (nat_le k 32) 7 (e i % 2 ^ k)
whole (encode is before) e =
    said (buffer (sizes (length is) (length before)) 0 (kept (sizes (length is) (length before)) (flat_map (bytes_of 8) (map e is)) before))
whole (canonical_form i) e = figured true 0 (e i)
