-- 01, "What the contracts must leave no room for": no public operation asks anything of its caller, and no second answer fits its contract, in the order
-- of `goldilocks`. `X.Asked` and `X.Learnt` are the contract of the function X as the kit hands it to X's callers, so what stands here is said of the
-- functions' own `requires` and `ensures`.
use mathlib.Core.Path.{ap₂, ◌∙◌}
use Rattle.answers.proofs.Told.{told_by, coded, coded_is}
use Rattle.goldilocks.proofs.add.Reads as add
use Rattle.goldilocks.proofs.sub.Reads as sub
use Rattle.goldilocks.proofs.neg.Reads as neg
use Rattle.goldilocks.proofs.reduce128.Reads as reduce128
use Rattle.goldilocks.proofs.mul.Reads as mul
use Rattle.goldilocks.proofs.square.Reads as square
use Rattle.goldilocks.proofs.halve.Reads as halve
use Rattle.goldilocks.proofs.sum_array.Reads as sum_array
use Rattle.goldilocks.proofs.dot_product.Reads as dot_product
use Rattle.goldilocks.proofs.from_i64.Reads as from_i64
use Rattle.goldilocks.proofs.from_u128.Reads as from_u128
use Rattle.goldilocks.proofs.mul_2exp_u64.Reads as mul_2exp_u64
use Rattle.goldilocks.proofs.div_2exp_u64.Reads as div_2exp_u64
use Rattle.goldilocks.proofs.try_inverse.Reads as try_inverse
use Rattle.goldilocks.proofs.try_sqrt.Reads as try_sqrt
use Rattle.goldilocks.proofs.injective_exp_root_n.Reads as injective_exp_root_n
use Rattle.goldilocks.proofs.two_adic_generator.Reads as two_adic_generator
use Rattle.goldilocks.proofs.eq.Reads as eq
use Rattle.goldilocks.proofs.cmp.Reads as cmp
use Rattle.goldilocks.proofs.is_zero.Reads as is_zero
use Rattle.goldilocks.proofs.slot.Reads as slot
use Rattle.goldilocks.proofs.encode.Reads as encode
use Rattle.goldilocks.proofs.decode.Reads as decode
use Rattle.goldilocks.proofs.as_canonical_u64.Reads as as_canonical_u64
use Rattle.goldilocks.proofs.from_canonical_checked_u64.Reads as from_canonical_checked_u64
use Rattle.goldilocks.proofs.from_canonical_checked_i64.Reads as from_canonical_checked_i64
use Rattle.goldilocks.proofs.value.Reads as value
use Rattle.answers.proofs.refusals.Refusal.number.Reads as number
use Rattle.sequence.specs.Determined.{Fixes, Determined}
use Rattle.sequence.proofs.Determined.{fixed}

-- ---- the operations

pub add_determined : Determined add.Asked add.Learnt
add_determined = record { free = λ k a. tt; answer = fixed (λ k a r s h. h.word) }

pub sub_determined : Determined sub.Asked sub.Learnt
sub_determined = record { free = λ k a. tt; answer = fixed (λ k a r s h. h.word) }

pub neg_determined : Determined neg.Asked neg.Learnt
neg_determined = record { free = λ k a. tt; answer = fixed (λ k a r s h. h.word) }

pub reduce128_determined : Determined reduce128.Asked reduce128.Learnt
reduce128_determined = record { free = λ k a. tt; answer = fixed (λ k a r s h. h.word) }

pub mul_determined : Determined mul.Asked mul.Learnt
mul_determined = record { free = λ k a. tt; answer = fixed (λ k a r s h. h.word) }

pub square_determined : Determined square.Asked square.Learnt
square_determined = record { free = λ k a. tt; answer = fixed (λ k a r s h. h.word) }

pub halve_determined : Determined halve.Asked halve.Learnt
halve_determined = record { free = λ k a. tt; answer = fixed (λ k a r s h. h.word) }

pub sum_array_determined : Determined sum_array.Asked sum_array.Learnt
sum_array_determined = record { free = λ k a. tt; answer = fixed (λ k a r s h. told_by h) }

pub dot_product_determined : Determined dot_product.Asked dot_product.Learnt
dot_product_determined = record { free = λ k a. tt; answer = fixed (λ k a r s h. told_by h) }

pub from_i64_determined : Determined from_i64.Asked from_i64.Learnt
from_i64_determined = record { free = λ k a. tt; answer = fixed (λ k a r s h. h.word) }

pub from_u128_determined : Determined from_u128.Asked from_u128.Learnt
from_u128_determined = record { free = λ k a. tt; answer = fixed (λ k a r s h. h.word) }

pub mul_2exp_u64_determined : Determined mul_2exp_u64.Asked mul_2exp_u64.Learnt
mul_2exp_u64_determined = record { free = λ k a. tt; answer = fixed (λ k a r s h. h.word) }

pub div_2exp_u64_determined : Determined div_2exp_u64.Asked div_2exp_u64.Learnt
div_2exp_u64_determined = record { free = λ k a. tt; answer = fixed (λ k a r s h. h.word) }

pub try_inverse_determined : Determined try_inverse.Asked try_inverse.Learnt
try_inverse_determined = record { free = λ k a. tt; answer = fixed (λ k a r s h. told_by h.answered) }

pub try_sqrt_determined : Determined try_sqrt.Asked try_sqrt.Learnt
try_sqrt_determined = record { free = λ k a. tt; answer = fixed (λ k a r s h. told_by h.answered) }

pub injective_exp_root_n_determined : Determined injective_exp_root_n.Asked injective_exp_root_n.Learnt
injective_exp_root_n_determined = record { free = λ k a. tt; answer = fixed (λ k a r s h. h.held.word) }

pub two_adic_generator_determined : Determined two_adic_generator.Asked two_adic_generator.Learnt
two_adic_generator_determined = record { free = λ k a. tt; answer = fixed (λ k a r s h. told_by h) }

pub eq_determined : Determined eq.Asked eq.Learnt
eq_determined = record { free = λ k a. tt; answer = fixed (λ k a r s h. h.canonical) }

pub cmp_determined : Determined cmp.Asked cmp.Learnt
cmp_determined = record { free = λ k a. tt; answer = fixed (λ k a r s h. h.canonical) }

pub is_zero_determined : Determined is_zero.Asked is_zero.Learnt
is_zero_determined = record { free = λ k a. tt; answer = fixed (λ k a r s h. h.canonical) }

pub slot_determined : Determined slot.Asked slot.Learnt
slot_determined = record { free = λ k a. tt; answer = fixed (λ k a r s h. told_by h) }

pub encode_determined : Determined encode.Asked encode.Learnt
encode_determined = record { free = λ k a. tt; answer = fixed (λ k a r s h. coded_is r ∙ ap₂ coded h.refusal h.index) }

-- and the lent buffer at exit
pub encode_buffer : Fixes (λ k r s. s.1.0.now) encode.Learnt
encode_buffer = fixed (λ k a r s h. h.bytes)

pub decode_determined : Determined decode.Asked decode.Learnt
decode_determined = record { free = λ k a. tt; answer = fixed (λ k a r s h. coded_is r ∙ ap₂ coded h.refusal h.index) }

pub decode_buffer : Fixes (λ k r s. s.1.0.now) decode.Learnt
decode_buffer = fixed (λ k a r s h. h.words)

pub as_canonical_u64_determined : Determined as_canonical_u64.Asked as_canonical_u64.Learnt
as_canonical_u64_determined = record { free = λ k a. tt; answer = fixed (λ k a r s h. h.word) }

pub from_canonical_checked_u64_determined : Determined from_canonical_checked_u64.Asked from_canonical_checked_u64.Learnt
from_canonical_checked_u64_determined = record { free = λ k a. tt; answer = fixed (λ k a r s h. told_by h) }

pub from_canonical_checked_i64_determined : Determined from_canonical_checked_i64.Asked from_canonical_checked_i64.Learnt
from_canonical_checked_i64_determined = record { free = λ k a. tt; answer = fixed (λ k a r s h. told_by h) }

pub value_determined : Determined value.Asked value.Learnt
value_determined = record { free = λ k a. tt; answer = fixed (λ k a r s h. h.word) }

-- the number of a refusal
pub number_determined : Determined number.Asked number.Learnt
number_determined = record { free = λ k a. tt; answer = fixed (λ k a r s h. h) }
