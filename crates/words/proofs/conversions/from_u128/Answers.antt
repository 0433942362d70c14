-- The canonical form of the reduction.
use Rattle.std.proofs.Common.{rules}
use Rattle.answers.proofs.Stands.{held, through}
use Rattle.words.specs.Words.{canonical, from_u128_word}
use Rattle.words.proofs.Laws.{from_u128_stands}
use Rattle.words.proofs.conversions.from_u128.Goals as goal

pub returns : goal.returns
unfolding from_u128_word
returns c = held (through canonical c.reduce128.ensures.word (search rules)) (from_u128_stands _ _ (search rules) (search rules))
