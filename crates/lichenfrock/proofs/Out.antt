-- No second result, word or index by reference, or lent buffer fits the contract of an exported function: `X_out` for each operation X, in document 01's
-- order. What `Fixes` reads off a call is all that goes out of it. Where the contract is the operation's own this is the operation's theorem, of
-- Determined.antt of `calls`; where it is `Handed`, what goes out is made of the operation's answer, and of that there is one.
use mathlib.Core.Path.{◌≡◌, sym, ap, ap₂, ◌∙◌}
use mathlib.Core.List.{List}
use Prim.Native.Nat.{ℕ}
use Rattle.sequence.specs.Determined.{Fixes, Determined}
use Rattle.calls.proofs.Determined as operation
use Rattle.lichenfrock.specs.Handed.{Handed}
use Rattle.lichenfrock.proofs.c_words as words
use Rattle.lichenfrock.proofs.c_sums as sums
use Rattle.lichenfrock.proofs.c_shifts as shifts
use Rattle.lichenfrock.proofs.c_roots as roots
use Rattle.lichenfrock.proofs.c_wire as wire

-- ---- what is handed out, where an operation leaves one answer for its arguments a

module _ {K : Type 0} {A R S : K → Type 0} {Asks : (k : K) → A k → Type 0} {Tells : (k : K) → A k → R k → S k → Type 0} (one : Determined Asks Tells)
    (k : K) (a : A k) (s t : S k) {O : Type 0} {hand : R k → O} {o p : O} where
  handed : Handed hand (λ r. Tells k a r s) o → Handed hand (λ r. Tells k a r t) p → o ≡ p
  handed h i = h.handed ∙ ap hand (one.answer k a h.answer i.answer s t h.promised i.promised) ∙ sym i.handed

  -- and beside it a lent buffer
  handed_with : {B : K → Type 0} {buffer : (k : K) → S k → B k} → Fixes (λ k r s. buffer k s) Tells
      → Handed hand (λ r. Tells k a r s) o → Handed hand (λ r. Tells k a r t) p → ◌≡◌ {A = O × B k} (o, buffer k s) (p, buffer k t)
  handed_with {B} fixed h i = ap₂ (λ (x : O) (b : B k). (x, b)) (handed h i) (fixed k a h.answer i.answer s t h.promised i.promised)

pub add_out : Fixes (λ k r s. r) words.lichenfrock_add.Reads.Learnt
add_out = (operation.add_determined).answer

pub sub_out : Fixes (λ k r s. r) words.lichenfrock_sub.Reads.Learnt
sub_out = (operation.sub_determined).answer

pub neg_out : Fixes (λ k r s. r) words.lichenfrock_neg.Reads.Learnt
neg_out = (operation.neg_determined).answer

pub reduce128_out : Fixes (λ k r s. r) words.lichenfrock_reduce128.Reads.Learnt
reduce128_out = (operation.reduce128_determined).answer

pub mul_out : Fixes (λ k r s. r) words.lichenfrock_mul.Reads.Learnt
mul_out = (operation.mul_determined).answer

pub square_out : Fixes (λ k r s. r) words.lichenfrock_square.Reads.Learnt
square_out = (operation.square_determined).answer

pub halve_out : Fixes (λ k r s. r) words.lichenfrock_halve.Reads.Learnt
halve_out = (operation.halve_determined).answer

pub sum_array_out : Fixes {B = λ k. ℕ × ℕ} (λ k r s. (r, s.1.0.now)) sums.lichenfrock_sum_array.Reads.Learnt
sum_array_out k a r q s t = handed operation.sum_array_determined (k.0, tt) (a.0, tt) (s.0, tt) (t.0, tt)

pub dot_product_out : Fixes {B = λ k. ℕ × ℕ} (λ k r s. (r, s.1.1.0.now)) sums.lichenfrock_dot_product.Reads.Learnt
dot_product_out k a r q s t = handed operation.dot_product_determined (k.0, (k.1.0, tt)) (a.0, (a.1.0, tt)) (s.0, (s.1.0, tt)) (t.0, (t.1.0, tt))

pub from_i64_out : Fixes (λ k r s. r) words.lichenfrock_from_i64.Reads.Learnt
from_i64_out = (operation.from_i64_determined).answer

pub from_u128_out : Fixes (λ k r s. r) words.lichenfrock_from_u128.Reads.Learnt
from_u128_out = (operation.from_u128_determined).answer

pub mul_2exp_u64_out : Fixes (λ k r s. r) shifts.lichenfrock_mul_2exp_u64.Reads.Learnt
mul_2exp_u64_out = (operation.mul_2exp_u64_determined).answer

pub div_2exp_u64_out : Fixes (λ k r s. r) shifts.lichenfrock_div_2exp_u64.Reads.Learnt
div_2exp_u64_out = (operation.div_2exp_u64_determined).answer

pub try_inverse_out : Fixes {B = λ k. ℕ × ℕ} (λ k r s. (r, s.1.0.now)) roots.lichenfrock_try_inverse.Reads.Learnt
try_inverse_out k a r q s t = handed operation.try_inverse_determined tt (a.0, tt) (s.0, tt) (t.0, tt)

pub try_sqrt_out : Fixes {B = λ k. ℕ × ℕ} (λ k r s. (r, s.1.0.now)) roots.lichenfrock_try_sqrt.Reads.Learnt
try_sqrt_out k a r q s t = handed operation.try_sqrt_determined tt (a.0, tt) (s.0, tt) (t.0, tt)

pub injective_exp_root_n_out : Fixes (λ k r s. r) roots.lichenfrock_injective_exp_root_n.Reads.Learnt
injective_exp_root_n_out = (operation.injective_exp_root_n_determined).answer

pub two_adic_generator_out : Fixes {B = λ k. ℕ × ℕ} (λ k r s. (r, s.1.0.now)) roots.lichenfrock_two_adic_generator.Reads.Learnt
two_adic_generator_out k a r q s t = handed operation.two_adic_generator_determined tt (a.0, tt) (s.0, tt) (t.0, tt)

pub eq_out : Fixes (λ k r s. r) words.lichenfrock_eq.Reads.Learnt
eq_out = (operation.eq_determined).answer

pub cmp_out : Fixes (λ k r s. r) words.lichenfrock_cmp.Reads.Learnt
cmp_out k a r q s t = handed operation.cmp_determined k a s t

pub is_zero_out : Fixes (λ k r s. r) words.lichenfrock_is_zero.Reads.Learnt
is_zero_out = (operation.is_zero_determined).answer

pub slot_out : Fixes {B = λ k. ℕ × ℕ} (λ k r s. (r, s.1.1.0.now)) words.lichenfrock_slot.Reads.Learnt
slot_out k a r q s t = handed operation.slot_determined tt (a.0, (a.1.0, tt)) (s.0, (s.1.0, tt)) (t.0, (t.1.0, tt))

pub encode_out : Fixes {B = λ k. (ℕ × ℕ) × List ℕ} (λ k r s. ((r, s.1.1.0.now), s.1.0.now)) wire.lichenfrock_encode.Reads.Learnt
encode_out k a r q s t =
    handed_with operation.encode_determined (k.0, (k.1.0, tt)) (a.0, (a.1.0, tt)) (s.0, (s.1.0, tt)) (t.0, (t.1.0, tt)) operation.encode_buffer

pub decode_out : Fixes {B = λ k. (ℕ × ℕ) × List ℕ} (λ k r s. ((r, s.1.1.0.now), s.1.0.now)) wire.lichenfrock_decode.Reads.Learnt
decode_out k a r q s t =
    handed_with operation.decode_determined (k.0, (k.1.0, tt)) (a.0, (a.1.0, tt)) (s.0, (s.1.0, tt)) (t.0, (t.1.0, tt)) operation.decode_buffer

pub as_canonical_u64_out : Fixes (λ k r s. r) words.lichenfrock_as_canonical_u64.Reads.Learnt
as_canonical_u64_out = (operation.as_canonical_u64_determined).answer

pub from_canonical_checked_u64_out : Fixes {B = λ k. ℕ × ℕ} (λ k r s. (r, s.1.0.now)) words.lichenfrock_from_canonical_checked_u64.Reads.Learnt
from_canonical_checked_u64_out k a r q s t = handed operation.from_canonical_checked_u64_determined tt (a.0, tt) (s.0, tt) (t.0, tt)

pub from_canonical_checked_i64_out : Fixes {B = λ k. ℕ × ℕ} (λ k r s. (r, s.1.0.now)) words.lichenfrock_from_canonical_checked_i64.Reads.Learnt
from_canonical_checked_i64_out k a r q s t = handed operation.from_canonical_checked_i64_determined tt (a.0, tt) (s.0, tt) (t.0, tt)

pub value_out : Fixes (λ k r s. r) words.lichenfrock_value.Reads.Learnt
value_out = (operation.value_determined).answer
