-- The canonical forms are compared, and so the remainders are.
use Rattle.std.proofs.Common.{rules}
use Rattle.words.specs.Orders.{order}
use Rattle.words.proofs.Laws.{seen}
use Rattle.words.proofs.canonical.cmp.Goals as goal

pub returns : goal.returns
returns c =
    seen order _ _ (search rules) (search rules) c.as_canonical_u64-a.ensures.word c.as_canonical_u64-b.ensures.word (search rules)
