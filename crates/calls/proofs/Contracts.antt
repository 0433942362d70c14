-- The contracts of the functions allow no outcome but the held one.
use mathlib.Core.Path.{◌≡◌, ap, ap₂, ◌∙◌}
use mathlib.Core.Bool.{Bool, true}
use mathlib.Core.List.{List, [], ◌∷◌}
use Prim.Native.Nat.{ℕ}
use lib.Dec.{eqb}
use lib.ListN.{length}
use Rattle.words.specs.Words.{canonical, add_word, sub_word, neg_word, reduce_word, mul_word, halve_word, from_i64_word, from_u128_word}
use Rattle.shifts.specs.Shifts.{shift_up_word, shift_down_word}
use Rattle.words.specs.Orders.{order}
use Rattle.std.specs.declared.cmp.Ordering.{Ordering}
use Rattle.answers.specs.Answers.{Answer}
use Rattle.answers.specs.Promises.{Answered}
use Rattle.roots.specs.Roots.{seventh_word}
use Rattle.answers.specs.Answers.{Coded}
use Rattle.wire.specs.Refusals.{sizes}
use Rattle.answers.specs.Answers.{coded_refusal, index_of}
use Rattle.wire.specs.Promises.{Encoded}
use Rattle.sequence.specs.Outcomes.{Outcome}
use Rattle.calls.specs.Calls.{Call, add, sub, neg, reduce, mul, square, halve, sum, dot, from_i64, from_limbs, shift_up, shift_down, inverse, square_root, seventh_root, generator, equal, compare, is_zero, slot, encode, canonical_form, Says, refusal, figure, truth, ordering, buffer, outcome, word, answered, figured, said}
use Rattle.calls.specs.Held.{sum_outcome, dot_outcome, inverse_outcome, root_outcome, generator_outcome, slot_outcome, encode_outcome, held}
use Rattle.calls.specs.Allowed.{Allowed, replied}

pub replied_is : {t : Bool} {n w e : ℕ} {r : Answer} → Answered t n w e r → replied r ≡ answered t n w
replied_is h = ap₂ (λ (n w : ℕ). outcome (refusal n) (w ∷ [])) h.refusal h.word

pub filled : {ws before after : List ℕ} {r : Coded} → Encoded ws before after r → said (buffer (coded_refusal r) (index_of r) after) ≡ encode_outcome ws before
filled {ws} {before} {after} h =
    ap₂ (λ (n i : ℕ). said (buffer n i after)) h.refusal h.index
    ∙ ap (λ (bs : List ℕ). said (buffer (sizes (length ws) (length before)) 0 bs)) h.bytes

pub held_only : (c : Call) (s : ℕ → ℕ) (o : Outcome Says ℕ) → Allowed c s o → o ≡ held c s
held_only (add i j) s o (k, a, r, t, (p, q), h, e) = e ∙ ap word (h.word ∙ ap₂ add_word p q)
held_only (sub i j) s o (k, a, r, t, (p, q), h, e) = e ∙ ap word (h.word ∙ ap₂ sub_word p q)
held_only (neg i) s o (k, a, r, t, p, h, e) = e ∙ ap word (h.word ∙ ap neg_word p)
held_only (reduce lo hi) s o (k, a, r, t, (p, q), h, e) = e ∙ ap word (h.word ∙ ap₂ reduce_word p q)
held_only (mul i j) s o (k, a, r, t, (p, q), h, e) = e ∙ ap word (h.word ∙ ap₂ mul_word p q)
held_only (square i) s o (k, a, r, t, p, h, e) = e ∙ ap word (h.word ∙ ap (λ (x : ℕ). mul_word x x) p)
held_only (halve i) s o (k, a, r, t, p, h, e) = e ∙ ap word (h.word ∙ ap halve_word p)
held_only (sum is) s o (k, a, r, t, p, h, e) = e ∙ replied_is h ∙ ap sum_outcome p
held_only (dot is js) s o (k, a, r, t, (p, q), h, e) = e ∙ replied_is h ∙ ap₂ dot_outcome p q
held_only (from_i64 z fits) s o (k, a, r, t, p, h, e) = e ∙ ap word (h.word ∙ ap from_i64_word p)
held_only (from_limbs lo hi) s o (k, a, r, t, (p, q), h, e) = e ∙ ap word (h.word ∙ ap₂ from_u128_word p q)
held_only (shift_up i x) s o (k, a, r, t, (p, q), h, e) = e ∙ ap word (h.word ∙ ap₂ shift_up_word p q)
held_only (shift_down i x) s o (k, a, r, t, (p, q), h, e) = e ∙ ap word (h.word ∙ ap₂ shift_down_word p q)
held_only (inverse i) s o (k, a, r, t, p, h, e) = e ∙ replied_is h.answered ∙ ap inverse_outcome p
held_only (square_root i) s o (k, a, r, t, p, h, e) = e ∙ replied_is h.answered ∙ ap root_outcome p
held_only (seventh_root i) s o (k, a, r, t, p, h, e) = e ∙ ap word (h.held.word ∙ ap seventh_word p)
held_only (generator b) s o (k, a, r, t, p, h, e) = e ∙ replied_is h ∙ ap generator_outcome p
held_only (equal i j) s o (k, a, r, t, (p, q), h, e) =
    e ∙ ap (λ (b : Bool). said (truth b)) (h.canonical ∙ ap₂ (λ (x y : ℕ). eqb (canonical x) (canonical y)) p q)
held_only (compare i j) s o (k, a, r, t, (p, q), h, e) =
    e ∙ ap (λ (c : Ordering). said (ordering c)) (h.canonical ∙ ap₂ (λ (x y : ℕ). order (canonical x) (canonical y)) p q)
held_only (is_zero i) s o (k, a, r, t, p, h, e) = e ∙ ap (λ (b : Bool). said (truth b)) (h.canonical ∙ ap (λ (x : ℕ). eqb (canonical x) 0) p)
held_only (slot i b) s o (k, a, r, t, (p, q), h, e) =
    e ∙ ap₂ (λ (n w : ℕ). outcome (figure n w) (w ∷ [])) h.refusal h.word ∙ ap₂ slot_outcome p q
held_only (encode is before) s o (k, a, r, t, (p, q), h, e) = e ∙ filled h ∙ ap₂ encode_outcome p q
held_only (canonical_form i) s o (k, a, r, t, p, h, e) = e ∙ ap (figured true 0) (h.word ∙ ap canonical p)
