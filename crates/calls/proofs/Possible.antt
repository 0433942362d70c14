-- The contracts allow the held outcome of any call: beside `held_only`, it is the one that they allow.
use mathlib.Core.Path.{◌≡◌, refl, sym, ap, ap₂, ◌∙◌}
use mathlib.Core.Bool.{Bool, true, false, not, cond, false≢true}
use mathlib.Core.List.{List, [], ◌∷◌, map}
use Prim.Native.Nat.{ℕ, ◌-◌, ◌*◌, ◌%◌, ◌^◌, ◌<◌}
use borrow.Author.Tests.{leb-true}
use lib.Dec.{eqb, leb}
use lib.ListN.{length}
use Rattle.prime.specs.Modulus.{P, seventh}
use Rattle.prime.proofs.Theorems.{inverse_power, power_of_root}
use Rattle.answers.specs.declared.refusals.Refusal.{Refusal}
use Rattle.answers.specs.declared.refusals.Refusal.TheVariants.{InverseOfZero, NoSquareRoot, LengthsDiffer, TooMany, WrongLength, Above32}
use Rattle.answers.specs.Answers.{Answer}
use Rattle.std.specs.Prelude.{Ok, Err}
use Rattle.answers.specs.Answers.{number, coded_refusal, index_of, kept}
use Rattle.answers.specs.Promises.{Answered}
use Rattle.answers.specs.Answers.{Coded}
use Rattle.std.specs.Prelude.{Ok, Err}
use Rattle.answers.proofs.Stands.{Stands, held as held_by, granted, refused}
use Rattle.words.specs.Orders.{order}
use Rattle.words.proofs.Laws.{seen as seen_by, canonical_stands, add_stands, sub_stands, neg_stands, reduce_stands, mul_stands, halve_stands, from_u128_stands, slot_stands}
use Rattle.words.proofs.Signed.{from_i64_stands}
use Rattle.shifts.proofs.PowersOfTwo.{shift_up_stands, shift_down_stands}
use Rattle.sums.specs.Sums.{limit}
use Rattle.sums.proofs.SumLaws.{sum_stands}
use Rattle.roots.specs.Roots.{G, inverse_word, is_square, root_word}
use Rattle.roots.specs.Promises.{Inverted, Rooted}
use Rattle.roots.proofs.Canonical.{power_stands, not_inverted}
use Rattle.roots.proofs.SquareRootWord.{is_square_lem, rooted, unrooted}
use Rattle.wire.specs.Wire.{encoded}
use Rattle.wire.specs.Refusals.{limit as coding_limit, sizes}
use Rattle.wire.specs.Promises.{Encoded}
use Rattle.sequence.proofs.Stores.{words_at}
use Rattle.sequence.proofs.Allows.{lent_mut, lent, one, two}
use Rattle.calls.specs.Calls.{Call, add, sub, neg, reduce, mul, square, halve, sum, dot, from_i64, from_limbs, shift_up, shift_down, inverse, square_root, seventh_root, generator, equal, compare, is_zero, slot, encode, canonical_form, outcome, figure}
use Rattle.calls.specs.Held.{held}
use Rattle.calls.specs.Allowed.{Allowed}
use Rattle.calls.proofs.FirstRoot.{first_squares, root_first}
use Rattle.calls.proofs.Agreement.{dot_at}
use Rattle.calls.proofs.Contracts.{replied_is, filled}

-- ---- an answer for each promise that may refuse

reply : (t : Bool) (f : Refusal) {w e : ℕ} → (t ≡ true → Stands e w) → (r : Answer) × Answered t (number f) w e r
reply true f {w} s = (Ok w, granted true refl refl (s refl))
reply false f s = (Err f, refused false f refl)

reply_dot : (t u : Bool) {w e : ℕ} → (t ≡ true → u ≡ true → Stands e w)
    → (r : Answer) × Answered (eqb (cond t (cond u 0 5) 4) 0) (cond t (cond u 0 5) 4) w e r
reply_dot true true {w} s = (Ok w, granted true refl refl (s refl refl))
reply_dot true false s = (Err TooMany, refused false TooMany refl)
reply_dot false u s = (Err LengthsDiffer, refused false LengthsDiffer refl)

invert : (x : ℕ) (z : Bool) → eqb (x % P) 0 ≡ z → (r : Answer) × Inverted x r
invert x true e = (Err InverseOfZero, not_inverted x e)
invert x false e = (Ok (inverse_word x), record { answered = granted _ (ap not e) refl (power_stands x (P - 2)); product = inverse_power x })

take_root : (x : ℕ) (q : Bool) → is_square x ≡ q → (r : Answer) × Rooted x r
take_root x true e =
    let q = (is_square_lem x).0 e in (Ok (root_word x), rooted x (root_word x) refl (rw (root_first x q) (first_squares x q)))
take_root x false e = (Err NoSquareRoot, unrooted x (λ q. false≢true (sym e ∙ (is_square_lem x).1 q)))

coding : (t u : Bool) → (r : Coded) × (coded_refusal r ≡ cond t (cond u 0 6) 5) × (index_of r ≡ 0)
coding true true = (Ok tt, refl, refl)
coding true false = (Err (record { refusal = WrongLength; index = 0 }), refl, refl)
coding false u = (Err (record { refusal = TooMany; index = 0 }), refl, refl)

code : (ws before : List ℕ) → (r : Coded) × (after : List ℕ) × Encoded ws before after r
code ws before =
    let (r, f, i) = coding (leb (length ws) coding_limit) (eqb (length before) (8 * length ws)) in
    (r, kept (sizes (length ws) (length before)) (encoded ws) before, record { refusal = f; index = i; bytes = refl })

pub possible : (c : Call) (s : ℕ → ℕ) → ((i : ℕ) → s i < 2 ^ 64) → Allowed c s (held c s)
possible (add i j) s h = two (s i) (s j) _ (held_by refl (add_stands (s i) (s j) (h i) (h j))) refl
possible (sub i j) s h = two (s i) (s j) _ (held_by refl (sub_stands (s i) (s j) (h i) (h j))) refl
possible (neg i) s h = one (s i) _ (held_by refl (neg_stands (s i) (h i))) refl
possible (reduce i j) s h = two (s i) (s j) _ (held_by refl (reduce_stands (s i) (s j) (h i) (h j))) refl
possible (mul i j) s h = two (s i) (s j) _ (held_by refl (mul_stands (s i) (s j) (h i) (h j))) refl
possible (square i) s h = one (s i) _ (held_by refl (mul_stands (s i) (s i) (h i) (h i))) refl
possible (halve i) s h = one (s i) _ (held_by refl (halve_stands (s i) (h i))) refl
possible (sum is) s h =
    let xs : List ℕ = map s is in
    let (r, a) = reply (leb (length xs) limit) TooMany (λ t. sum_stands xs (words_at s h is) (leb-true (length xs) limit t)) in
    (([], tt), (lent xs, tt), r, (lent xs, tt), refl, a, sym (replied_is a))
possible (dot is js) s h =
    let xs : List ℕ = map s is in
    let ys : List ℕ = map s js in
    let (r, a) = reply_dot (eqb (length xs) (length ys)) (leb (length xs) limit) (dot_at s h is js) in
    (([], ([], tt)), (lent xs, (lent ys, tt)), r, (lent xs, (lent ys, tt)), (refl, refl), a, sym (replied_is a))
possible (from_i64 z fits) s h = one z _ (held_by refl (from_i64_stands z fits)) refl
possible (from_limbs i j) s h = two (s i) (s j) _ (held_by refl (from_u128_stands (s i) (s j) (h i) (h j))) refl
possible (shift_up i k) s h = two (s i) k _ (held_by refl (shift_up_stands (s i) k (h i))) refl
possible (shift_down i k) s h = two (s i) k _ (held_by refl (shift_down_stands (s i) k (h i))) refl
possible (inverse i) s h = let (r, a) = invert (s i) _ refl in one (s i) r a (sym (replied_is a.answered))
possible (square_root i) s h = let (r, a) = take_root (s i) _ refl in one (s i) r a (sym (replied_is a.answered))
possible (seventh_root i) s h = one (s i) _ (record { held = held_by refl (power_stands (s i) seventh); seventh_power = power_of_root (s i) }) refl
possible (generator k) s h =
    let (r, a) = reply (leb k 32) Above32 (λ _. power_stands G (2 ^ (32 - k))) in one k r a (sym (replied_is a))
possible (equal i j) s h = two (s i) (s j) _ (seen_by eqb (s i) (s j) (h i) (h j) refl refl refl) refl
possible (compare i j) s h = two (s i) (s j) _ (seen_by order (s i) (s j) (h i) (h j) refl refl refl) refl
possible (is_zero i) s h = one (s i) _ (seen_by (λ a _. eqb a 0) (s i) (s i) (h i) (h i) refl refl refl) refl
possible (slot i k) s h =
    let (r, a) = reply (leb k 32) Above32 (λ _. slot_stands (s i) k (h i)) in
    two (s i) k r a (sym (ap₂ (λ (n w : ℕ). outcome (figure n w) (w ∷ [])) a.refusal a.word))
possible (encode is before) s h =
    let ws : List ℕ = map s is in
    let (r, after, a) = code ws before in
    (([], ([], tt)), (lent ws, (lent_mut before, tt)), r, (lent ws, (lent_mut after, tt)), (refl, refl), a, sym (filled a))
possible (canonical_form i) s h = one (s i) _ (held_by refl (canonical_stands (s i) (h i))) refl
