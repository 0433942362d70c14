-- The code is the rule.
use Rattle.std.proofs.Common.{◌∙◌, arith, rules}
use Rattle.answers.proofs.Stands.{held}
use Rattle.words.proofs.Reductions.{reduced}
use Rattle.words.proofs.Laws.{reduce_stands}
use Rattle.words.proofs.product.reduce128.Goals as goal

pub returns : goal.returns
returns c =
    held
    (c.add_no_canonicalize_trashing_input.ensures
    ∙ reduced _ _ _ _ _ c.high_bits.ensures.0 (c.sub_once-t0.ensures (omega arith)) c.mul_halves-t1.ensures.0)
    (reduce_stands _ _ (search rules) (search rules))
