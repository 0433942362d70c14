-- The loop keeps the exponent of product · current^rest, which is that of `product` at the end.
use Rattle.roots.proofs.Exponents.{Left}
use Rattle.roots.proofs.powers.exp_u64.Given as goal

abbrev pub invariant-loop-rest : goal.invariant-loop-rest
invariant-loop-rest l = Left l.x l.exp l.product l.current l.rest

abbrev pub decreases-loop-rest : goal.decreases-loop-rest
decreases-loop-rest l = l.rest
