-- The canonical form of the power that undoes a seventh power.
use borrow.Author.Rules.{rules}
use Rattle.roots.proofs.Canonical.{seventh_root}
use Rattle.roots.proofs.seventh_roots.injective_exp_root_n.Goals as goal

pub returns : goal.returns
returns c = seventh_root _ c.exp_u64.result (search rules) (search rules) c.exp_u64.ensures
