-- In elements, each held answer is the whole-number one.
use mathlib.Core.Path.{◌≡◌, refl, sym, ap, ap₂, ◌∙◌}
use mathlib.Core.Bool.{Bool, true, false, not, cond, false≢true}
use mathlib.Core.Logic.{◌≢◌}
use mathlib.Core.List.{List, [], ◌∷◌, map, flat_map, ◌++◌}
use Prim.Native.Nat.{ℕ, ◌+◌, ◌-◌, ◌*◌, ◌%◌, ◌^◌, ◌<◌}
use native.Mathlib.Nat.{mod-lt, mod-mod, mod-eq_of_lt, mod-le, add-mod, zero-add, one-mul, lt_of_le_of_lt}
use native.Mathlib.Omega.{arith}
use borrow.Author.Tests.{leb-true, eqb-true, eq-eqb}
use lib.Dec.{eqb, leb, lit<}
use lib.IntN.{ℤ, pos, negsuc}
use lib.ListN.{length, length-map}
use Rattle.prime.specs.Modulus.{P, seventh}
use Rattle.prime.specs.Powers.{power}
use Rattle.prime.specs.Residues.{Square}
use Rattle.prime.specs.Elements.{half, residue}
use Rattle.prime.proofs.Congruence.{add_same, mul_same, mul_same_left, mul_same_right, mul_mod}
use Rattle.prime.proofs.Powers.{power_mod}
use Rattle.prime.proofs.Theorems.{power_is, power_rest, inverse_power}
use Rattle.answers.specs.Answers.{kept}
use Rattle.answers.proofs.Stands.{Stands, to}
use Rattle.limbs.specs.Limbs.{limbs}
use Rattle.words.specs.Orders.{order}
use Rattle.words.proofs.Laws.{canonical_is, add_stands, sub_stands, neg_stands, reduce_stands, mul_stands, halve_stands, from_u128_stands}
use Rattle.words.proofs.Signed.{from_i64_stands}
use Rattle.shifts.proofs.PowersOfTwo.{shift_up_stands, shift_down_stands}
use Rattle.sums.specs.Sums.{limit, total, products, dot_word, dot_refusal}
use Rattle.sums.proofs.Totals.{each_product, products_length}
use Rattle.sums.proofs.SumLaws.{sum_stands, dot_stands}
use Rattle.roots.specs.Roots.{G, is_square, root_word}
use Rattle.roots.proofs.Canonical.{power_stands}
use Rattle.roots.proofs.SquareRootWord.{is_square_lem, root_stands}
use Rattle.wire.specs.Wire.{bytes_of, encoded}
use Rattle.wire.specs.Refusals.{sizes}
use Rattle.sequence.specs.Outcomes.{element}
use Rattle.sequence.specs.Families.{Agrees, Respectful}
use Rattle.sequence.proofs.Stores.{words_at}
use Rattle.calls.specs.Calls.{add, sub, neg, reduce, mul, square, halve, sum, dot, from_i64, from_limbs, shift_up, shift_down, inverse, square_root, seventh_root, generator, equal, compare, is_zero, slot, encode, canonical_form, Says, truth, ordering, buffer, outcome, word, answered, figured, said, figure}
use Rattle.calls.specs.WholeNumbers.{minus, over, signed, has_root, root_of, seventh_root_of}
use Rattle.calls.specs.Operations.{operations}
use Rattle.calls.proofs.FirstRoot.{root_first}
use Rattle.calls.proofs.Solutions.{solve_is, difference, quotient, halved, shifted, seventh_rooted}

-- ---- outcomes of each form agree

a_word : {e v w : ℕ} → Stands e w → e ≡ v → Agrees (word w) (word v)
a_word s f = record { below = (s.below, tt); same = ap word (s.element ∙ f) }

an_answer : (t u : Bool) {n m v w : ℕ} → t ≡ u → n ≡ m → (t ≡ true → Stands v w) → Agrees (answered t n w) (answered u m v)
an_answer true true e f s = record { below = ((s refl).below, tt); same = ap word (s refl).element }
an_answer true false e f s = absurd (false≢true (sym e))
an_answer false true e f s = absurd (false≢true e)
an_answer false false e f s = record { below = (lit< tt, tt); same = ap (λ n. answered false n 0) f }

a_figure : (t : Bool) (n : ℕ) {v w : ℕ} → w ≡ v → v < P → Agrees (figured t n w) (figured t n v)
a_figure true n {v} e h = record {
  below = (omega arith, tt);
  same = ap₂ (λ (a b : ℕ). outcome (figure 0 a) (b ∷ [])) e (ap element e ∙ mod-eq_of_lt h);
}
a_figure false n e h = record { below = (lit< tt, tt); same = refl }

no_word : {p q : Says} → p ≡ q → Agrees (said p) (said q)
no_word e = record { below = tt; same = ap said e }

-- ---- from an operation's element to the whole number

-- a number and its remainder, which is below P, are the same modulo P
reduced : (x : ℕ) → x % P ≡ x % P % P
reduced x = sym (mod-mod x P)

below_P : (x : ℕ) → x % P < P
below_P x = mod-lt x (lit< tt)

module _ (x y : ℕ) where
  difference_is : (x + (P - 1) * y) % P ≡ minus (x % P) (y % P)
  difference_is =
      add_same P x ((P - 1) * y) (x % P) ((P - 1) * (y % P)) (reduced x) (mul_same_right P (P - 1) y (y % P) (reduced y))
      ∙ sym (solve_is (difference (x % P) (y % P) (below_P x)))

  limbs_is : limbs x y % P ≡ (x % P + 2 ^ 64 * (y % P)) % P
  limbs_is = add_same P x (2 ^ 64 * y) (x % P) (2 ^ 64 * (y % P)) (reduced x) (mul_same_right P (2 ^ 64) y (y % P) (reduced y))

  -- a factor may be taken modulo P
  factor_is : x * y % P ≡ x % P * y % P
  factor_is = mul_same_left P x (x % P) y (reduced x)

module _ (x : ℕ) where
  half_is : x * half % P ≡ over (x % P) 2
  half_is = factor_is x half ∙ sym (solve_is (halved (x % P) (below_P x)))

  up_is : (k : ℕ) → x * power P 2 k % P ≡ x % P * 2 ^ k % P
  up_is k = ap (λ (p : ℕ). x * p % P) (power_is 2 k) ∙ mul_same P x (2 ^ k % P) (x % P) (2 ^ k) (reduced x) (mod-mod (2 ^ k) P)

  down_is : (k : ℕ) → x * power P half k % P ≡ over (x % P) (2 ^ k)
  down_is k = factor_is x (power P half k) ∙ sym (solve_is (shifted (x % P) (below_P x) k))

  inverse_is : x % P ≢ 0 → power P x (P - 2) ≡ over 1 (x % P)
  inverse_is n =
      sym (power_mod P x (P - 2)) ∙ ap (λ (u : ℕ). u % P) (sym (one-mul (power P x (P - 2))))
      ∙ sym (solve_is (quotient 1 (x % P) (lit< tt) (power P x (P - 2)) (sym (factor_is x (power P x (P - 2))) ∙ inverse_power x n)))

  seventh_root_is : power P x seventh ≡ seventh_root_of (x % P)
  seventh_root_is = sym (power_rest x seventh) ∙ sym (solve_is (seventh_rooted (x % P) (below_P x)))

  is_square_is : is_square x ≡ has_root (x % P)
  unfolding is_square
  is_square_is = refl

  root_is : Square P x → root_word x ≡ root_of (x % P)
  root_is q = rw (power_rest x (2 ^ 31)) (root_first x q)

-- a negative, where -1 is P - 1
opposite_is : (y : ℕ) → (P - 1) * y % P ≡ minus 0 y
opposite_is y = ap (λ (n : ℕ). n % P) (sym (zero-add ((P - 1) * y))) ∙ sym (solve_is (difference 0 y (lit< tt)))

signed_is : (z : ℤ) → residue z ≡ signed z
signed_is (pos n) = refl
signed_is (negsuc n) = opposite_is (n + 1)

-- sums of elements
total_is : (s : ℕ → ℕ) (is : List ℕ) → total (map s is) % P ≡ total (map (λ i. s i % P) is) % P
unfolding total
total_is s [] = refl
total_is s (i ∷ is) = add_same P (s i) (total (map s is)) (s i % P) (total (map (λ i. s i % P) is)) (reduced (s i)) (total_is s is)

-- products of elements, pair by pair
products_is : (s : ℕ → ℕ) (is js : List ℕ)
    → total (products (map s is) (map s js)) % P ≡ total (products (map (λ i. s i % P) is) (map (λ i. s i % P) js)) % P
unfolding total products
products_is s [] [] = refl
products_is s [] (j ∷ js) = refl
products_is s (i ∷ is) [] = refl
products_is s (i ∷ is) (j ∷ js) =
    add_same P (s i * s j) (total (products (map s is) (map s js))) (s i % P * (s j % P)) (total (products (map (λ i. s i % P) is) (map (λ i. s i % P) js)))
    (mul_same P (s i) (s j) (s i % P) (s j % P) (reduced (s i)) (reduced (s j))) (products_is s is js)

-- words as bytes
encoded_is : (s : ℕ → ℕ) (is : List ℕ) → encoded (map s is) ≡ flat_map (bytes_of 8) (map (λ i. s i % P) is)
unfolding encoded flat_map
encoded_is s [] = refl
encoded_is s (i ∷ is) = ap (λ (bs : List ℕ). bytes_of 8 (s i % P) ++ bs) (encoded_is s is)

-- dot, of the words at the places of two lists
pub dot_at : (s : ℕ → ℕ) → ((i : ℕ) → s i < 2 ^ 64) → (is js : List ℕ) → eqb (length (map s is)) (length (map s js)) ≡ true
    → leb (length (map s is)) limit ≡ true → Stands (total (products (map s is) (map s js)) % P) (dot_word (map s is) (map s js))
dot_at s h is js e l =
    let xs : List ℕ = map s is in
    let ys : List ℕ = map s js in
    dot_stands (products xs ys) (each_product xs ys (words_at s h is) (words_at s h js))
    (rw (products_length xs ys (eqb-true (length xs) (length ys) e)) (leb-true (length xs) limit l))

-- where dot refuses nothing, the lists are of one length, within the limit
paired : (t u : Bool) → eqb (cond t (cond u 0 5) 4) 0 ≡ true → (t ≡ true) × (u ≡ true)
paired true true e = (refl, refl)
paired true false e = absurd (false≢true e)
paired false u e = absurd (false≢true e)

pub respectful : Respectful operations
respectful (add i j) s n h = a_word (add_stands (s i) (s j) (h i) (h j)) (add-mod (s i) (s j) P)
respectful (sub i j) s n h = a_word (sub_stands (s i) (s j) (h i) (h j)) (difference_is (s i) (s j))
respectful (neg i) s n h = a_word (neg_stands (s i) (h i)) (mul_same_right P (P - 1) (s i) (s i % P) (reduced (s i)) ∙ opposite_is (s i % P))
respectful (reduce lo hi) s n h = a_word (reduce_stands (s lo) (s hi) (h lo) (h hi)) (limbs_is (s lo) (s hi))
respectful (mul i j) s n h = a_word (mul_stands (s i) (s j) (h i) (h j)) (mul_mod P (s i) (s j))
respectful (square i) s n h = a_word (mul_stands (s i) (s i) (h i) (h i)) (mul_mod P (s i) (s i))
respectful (halve i) s n h = a_word (halve_stands (s i) (h i)) (half_is (s i))
respectful (sum is) s n h =
    an_answer (leb (length (map s is)) limit) (leb (length is) limit) (ap (λ (l : ℕ). leb l limit) (length-map is s)) refl
    (λ t. to (total_is s is) (sum_stands (map s is) (words_at s h is) (leb-true (length (map s is)) limit t)))
respectful (dot is js) s n h =
    let xs : List ℕ = map s is in
    let ys : List ℕ = map s js in
    let e : dot_refusal xs ys ≡ dot_refusal is js = rw (length-map is s, length-map js s) in
    an_answer (eqb (dot_refusal xs ys) 0) (eqb (dot_refusal is js) 0) (ap (λ (k : ℕ). eqb k 0) e) e
    (λ t. let (p, q) = paired (eqb (length xs) (length ys)) (leb (length xs) limit) t in to (products_is s is js) (dot_at s h is js p q))
respectful (from_i64 z fits) s n h = a_word (from_i64_stands z fits) (signed_is z)
respectful (from_limbs lo hi) s n h = a_word (from_u128_stands (s lo) (s hi) (h lo) (h hi)) (limbs_is (s lo) (s hi))
respectful (shift_up i k) s n h = a_word (shift_up_stands (s i) k (h i)) (up_is (s i) k)
respectful (shift_down i k) s n h = a_word (shift_down_stands (s i) k (h i)) (down_is (s i) k)
respectful (inverse i) s n h =
    an_answer (not (eqb (s i % P) 0)) (not (eqb (s i % P) 0)) refl refl
    (λ t. to (inverse_is (s i) (λ z. false≢true (sym (ap not (eq-eqb (s i % P) 0 z)) ∙ t))) (power_stands (s i) (P - 2)))
respectful (square_root i) s n h =
    an_answer (is_square (s i)) (has_root (s i % P)) (is_square_is (s i)) refl (λ t. to (root_is (s i) ((is_square_lem (s i)).0 t)) (root_stands (s i)))
respectful (seventh_root i) s n h = a_word (power_stands (s i) seventh) (seventh_root_is (s i))
respectful (generator k) s n h = an_answer (leb k 32) (leb k 32) refl refl (λ _. power_stands G (2 ^ (32 - k)))
respectful (equal i j) s n h = no_word (ap₂ (λ (a b : ℕ). truth (eqb a b)) (canonical_is (s i) (h i)) (canonical_is (s j) (h j)))
respectful (compare i j) s n h = no_word (ap₂ (λ (a b : ℕ). ordering (order a b)) (canonical_is (s i) (h i)) (canonical_is (s j) (h j)))
respectful (is_zero i) s n h = no_word (ap (λ (a : ℕ). truth (eqb a 0)) (canonical_is (s i) (h i)))
respectful (slot i k) s n h = a_figure (leb k 32) 7 (ap (λ (a : ℕ). a % 2 ^ k) (canonical_is (s i) (h i)))
    (lt_of_le_of_lt (mod-le (s i % P) (2 ^ k)) (below_P (s i)))
respectful (encode is before) s n h =
    no_word (ap₂ (λ (k : ℕ) (bs : List ℕ). buffer k 0 (kept k bs before)) (ap (λ (l : ℕ). sizes l (length before)) (length-map is s)) (encoded_is s is))
respectful (canonical_form i) s n h = a_figure true 0 (canonical_is (s i) (h i)) (mod-lt (s i) (lit< tt))
