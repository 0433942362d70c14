-- Each function of c_shifts.rt promises what its operation promises and asks nothing of its caller: the two contracts compute to the same.
use mathlib.Core.Path.{refl}
use Rattle.goldilocks.proofs as operation
use Rattle.lichenfrock.specs.Same.{Same}
use Rattle.lichenfrock.proofs.c_shifts as exported

pub mul_2exp_u64_same : Same exported.lichenfrock_mul_2exp_u64.Reads.Asked exported.lichenfrock_mul_2exp_u64.Reads.Learnt operation.mul_2exp_u64.Reads.Learnt
mul_2exp_u64_same = record { free = λ k a. tt; same = refl }

pub div_2exp_u64_same : Same exported.lichenfrock_div_2exp_u64.Reads.Asked exported.lichenfrock_div_2exp_u64.Reads.Learnt operation.div_2exp_u64.Reads.Learnt
div_2exp_u64_same = record { free = λ k a. tt; same = refl }
