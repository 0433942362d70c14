-- P less the canonical form.
use Rattle.std.proofs.Common.{ℕ, ◌-◌, ap, arith, rules}
use Rattle.prime.specs.Modulus.{P}
use Rattle.answers.proofs.Stands.{held}
use Rattle.words.specs.Words.{neg_word}
use Rattle.words.proofs.Laws.{neg_stands, canonical_is}
use Rattle.words.proofs.additive.neg.Goals as goal

pub overflow_sub-result : goal.overflow_sub-result
overflow_sub-result c = omega (arith, canonical_is _ c.ranges.x.fits)

pub returns : goal.returns
unfolding neg_word
returns c = held (ap (λ (n : ℕ). P - n) (search rules)) (neg_stands _ (search rules))
