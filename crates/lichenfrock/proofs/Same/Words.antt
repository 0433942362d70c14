-- Each function of c_words.rt promises what its operation promises and asks nothing of its caller: the two contracts compute to the same.
use mathlib.Core.Path.{refl}
use Rattle.goldilocks.proofs as operation
use Rattle.lichenfrock.specs.Handed.{number_and_word, sign, Handed}
use Rattle.lichenfrock.specs.Same.{Same}
use Rattle.lichenfrock.proofs.c_words as exported

pub add_same : Same exported.lichenfrock_add.Reads.Asked exported.lichenfrock_add.Reads.Learnt operation.add.Reads.Learnt
add_same = record { free = λ k a. tt; same = refl }

pub sub_same : Same exported.lichenfrock_sub.Reads.Asked exported.lichenfrock_sub.Reads.Learnt operation.sub.Reads.Learnt
sub_same = record { free = λ k a. tt; same = refl }

pub neg_same : Same exported.lichenfrock_neg.Reads.Asked exported.lichenfrock_neg.Reads.Learnt operation.neg.Reads.Learnt
neg_same = record { free = λ k a. tt; same = refl }

pub reduce128_same : Same exported.lichenfrock_reduce128.Reads.Asked exported.lichenfrock_reduce128.Reads.Learnt operation.reduce128.Reads.Learnt
reduce128_same = record { free = λ k a. tt; same = refl }

pub mul_same : Same exported.lichenfrock_mul.Reads.Asked exported.lichenfrock_mul.Reads.Learnt operation.mul.Reads.Learnt
mul_same = record { free = λ k a. tt; same = refl }

pub square_same : Same exported.lichenfrock_square.Reads.Asked exported.lichenfrock_square.Reads.Learnt operation.square.Reads.Learnt
square_same = record { free = λ k a. tt; same = refl }

pub halve_same : Same exported.lichenfrock_halve.Reads.Asked exported.lichenfrock_halve.Reads.Learnt operation.halve.Reads.Learnt
halve_same = record { free = λ k a. tt; same = refl }

pub from_i64_same : Same exported.lichenfrock_from_i64.Reads.Asked exported.lichenfrock_from_i64.Reads.Learnt operation.from_i64.Reads.Learnt
from_i64_same = record { free = λ k a. tt; same = refl }

pub from_u128_same : Same exported.lichenfrock_from_u128.Reads.Asked exported.lichenfrock_from_u128.Reads.Learnt operation.from_u128.Reads.Learnt
from_u128_same = record { free = λ k a. tt; same = refl }

pub eq_same : Same exported.lichenfrock_eq.Reads.Asked exported.lichenfrock_eq.Reads.Learnt operation.eq.Reads.Learnt
eq_same = record { free = λ k a. tt; same = refl }

pub cmp_same : Same exported.lichenfrock_cmp.Reads.Asked exported.lichenfrock_cmp.Reads.Learnt
    (λ k a r s. Handed sign (λ b. operation.cmp.Reads.Learnt k a b s) r)
cmp_same = record { free = λ k a. tt; same = refl }

pub is_zero_same : Same exported.lichenfrock_is_zero.Reads.Asked exported.lichenfrock_is_zero.Reads.Learnt operation.is_zero.Reads.Learnt
is_zero_same = record { free = λ k a. tt; same = refl }

pub slot_same : Same exported.lichenfrock_slot.Reads.Asked exported.lichenfrock_slot.Reads.Learnt
    (λ k a r s. Handed number_and_word (λ b. operation.slot.Reads.Learnt tt (a.0, (a.1.0, tt)) b (s.0, (s.1.0, tt))) (r, s.1.1.0.now))
slot_same = record { free = λ k a. tt; same = refl }

pub as_canonical_u64_same : Same exported.lichenfrock_as_canonical_u64.Reads.Asked exported.lichenfrock_as_canonical_u64.Reads.Learnt operation.as_canonical_u64.Reads.Learnt
as_canonical_u64_same = record { free = λ k a. tt; same = refl }

pub from_canonical_checked_u64_same : Same exported.lichenfrock_from_canonical_checked_u64.Reads.Asked exported.lichenfrock_from_canonical_checked_u64.Reads.Learnt
    (λ k a r s. Handed number_and_word (λ b. operation.from_canonical_checked_u64.Reads.Learnt tt (a.0, tt) b (s.0, tt)) (r, s.1.0.now))
from_canonical_checked_u64_same = record { free = λ k a. tt; same = refl }

pub from_canonical_checked_i64_same : Same exported.lichenfrock_from_canonical_checked_i64.Reads.Asked exported.lichenfrock_from_canonical_checked_i64.Reads.Learnt
    (λ k a r s. Handed number_and_word (λ b. operation.from_canonical_checked_i64.Reads.Learnt tt (a.0, tt) b (s.0, tt)) (r, s.1.0.now))
from_canonical_checked_i64_same = record { free = λ k a. tt; same = refl }

pub value_same : Same exported.lichenfrock_value.Reads.Asked exported.lichenfrock_value.Reads.Learnt operation.value.Reads.Learnt
value_same = record { free = λ k a. tt; same = refl }
