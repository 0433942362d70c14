-- The limbs of a number are its remainder and its quotient by 2^64.
use Rattle.std.proofs.Common.{◌∙◌, ap₂, arith}
use Rattle.answers.proofs.Stands.{held}
use Rattle.words.specs.Words.{reduce_word}
use Rattle.words.proofs.Laws.{wide_stands}
use Rattle.words.proofs.product.reduce_wide.Goals as goal

pub returns : goal.returns
returns c = held (c.reduce128.ensures.word ∙ ap₂ reduce_word c.lo.ensures c.hi.ensures) (wide_stands c.args.n (omega arith))
