-- The canonical forms are compared, and so the remainders are.
use Rattle.std.proofs.Common.{eqb, refl, rules}
use Rattle.words.proofs.Laws.{seen}
use Rattle.words.proofs.canonical.eq.Goals as goal

pub returns : goal.returns
returns c =
    seen eqb _ _ (search rules) (search rules) c.as_canonical_u64-a.ensures.word c.as_canonical_u64-b.ensures.word refl
