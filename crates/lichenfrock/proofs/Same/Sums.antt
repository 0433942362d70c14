-- Each function of c_sums.rt promises what its operation promises and asks nothing of its caller: the two contracts compute to the same.
use mathlib.Core.Path.{refl}
use Rattle.goldilocks.proofs as operation
use Rattle.lichenfrock.specs.Handed.{number_and_word, Handed}
use Rattle.lichenfrock.specs.Same.{Same}
use Rattle.lichenfrock.proofs.c_sums as exported

pub sum_array_same : Same exported.lichenfrock_sum_array.Reads.Asked exported.lichenfrock_sum_array.Reads.Learnt
    (λ k a r s. Handed number_and_word (λ b. operation.sum_array.Reads.Learnt (k.0, tt) (a.0, tt) b (s.0, tt)) (r, s.1.0.now))
sum_array_same = record { free = λ k a. tt; same = refl }

pub dot_product_same : Same exported.lichenfrock_dot_product.Reads.Asked exported.lichenfrock_dot_product.Reads.Learnt
    (λ k a r s. Handed number_and_word (λ b. operation.dot_product.Reads.Learnt (k.0, (k.1.0, tt)) (a.0, (a.1.0, tt)) b (s.0, (s.1.0, tt))) (r, s.1.1.0.now))
dot_product_same = record { free = λ k a. tt; same = refl }
