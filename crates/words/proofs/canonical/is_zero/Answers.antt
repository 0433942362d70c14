-- The canonical form is 0, and so the remainder is.
use Rattle.std.proofs.Common.{eqb, refl, lit<}
use Rattle.words.specs.Words.{canonical}
use Rattle.words.proofs.Laws.{seen}
use Rattle.words.proofs.canonical.is_zero.Goals as goal

pub returns : goal.returns
unfolding canonical
returns c = seen eqb _ 0 c.ranges.x.fits (lit< tt) c.as_canonical_u64-a.ensures.word refl refl
