-- Each function of c_roots.rt promises what its operation promises and asks nothing of its caller: the two contracts compute to the same.
use mathlib.Core.Path.{refl}
use Rattle.goldilocks.proofs as operation
use Rattle.lichenfrock.specs.Handed.{number_and_word, Handed}
use Rattle.lichenfrock.specs.Same.{Same}
use Rattle.lichenfrock.proofs.c_roots as exported

pub try_inverse_same : Same exported.lichenfrock_try_inverse.Reads.Asked exported.lichenfrock_try_inverse.Reads.Learnt
    (λ k a r s. Handed number_and_word (λ b. operation.try_inverse.Reads.Learnt tt (a.0, tt) b (s.0, tt)) (r, s.1.0.now))
try_inverse_same = record { free = λ k a. tt; same = refl }

pub try_sqrt_same : Same exported.lichenfrock_try_sqrt.Reads.Asked exported.lichenfrock_try_sqrt.Reads.Learnt
    (λ k a r s. Handed number_and_word (λ b. operation.try_sqrt.Reads.Learnt tt (a.0, tt) b (s.0, tt)) (r, s.1.0.now))
try_sqrt_same = record { free = λ k a. tt; same = refl }

pub injective_exp_root_n_same : Same exported.lichenfrock_injective_exp_root_n.Reads.Asked exported.lichenfrock_injective_exp_root_n.Reads.Learnt operation.injective_exp_root_n.Reads.Learnt
injective_exp_root_n_same = record { free = λ k a. tt; same = refl }

pub two_adic_generator_same : Same exported.lichenfrock_two_adic_generator.Reads.Asked exported.lichenfrock_two_adic_generator.Reads.Learnt
    (λ k a r s. Handed number_and_word (λ b. operation.two_adic_generator.Reads.Learnt tt (a.0, tt) b (s.0, tt)) (r, s.1.0.now))
two_adic_generator_same = record { free = λ k a. tt; same = refl }
