-- Each function of c_wire.rt promises what its operation promises and asks nothing of its caller: the two contracts compute to the same.
use mathlib.Core.Path.{refl}
use Rattle.goldilocks.proofs as operation
use Rattle.lichenfrock.specs.Handed.{number_and_index, Handed}
use Rattle.lichenfrock.specs.Same.{Same}
use Rattle.lichenfrock.proofs.c_wire as exported

pub encode_same : Same exported.lichenfrock_encode.Reads.Asked exported.lichenfrock_encode.Reads.Learnt
    (λ k a r s. Handed number_and_index (λ b. operation.encode.Reads.Learnt (k.0, (k.1.0, tt)) (a.0, (a.1.0, tt)) b (s.0, (s.1.0, tt))) (r, s.1.1.0.now))
encode_same = record { free = λ k a. tt; same = refl }

pub decode_same : Same exported.lichenfrock_decode.Reads.Asked exported.lichenfrock_decode.Reads.Learnt
    (λ k a r s. Handed number_and_index (λ b. operation.decode.Reads.Learnt (k.0, (k.1.0, tt)) (a.0, (a.1.0, tt)) b (s.0, (s.1.0, tt))) (r, s.1.1.0.now))
decode_same = record { free = λ k a. tt; same = refl }
