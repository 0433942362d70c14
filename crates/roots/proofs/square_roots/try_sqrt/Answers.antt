-- What is answered: for zero, where no order is found, and once t is 1.
use mathlib.Core.Path.{sym, ◌∙◌}
use borrow.Author.Rules.{rules}
use borrow.Author.Tests.{eqb-true}
use Rattle.roots.proofs.SquareRootWord.{zero_rooted}
use Rattle.roots.proofs.SquareRootTurns.{ends, refuses}
use Rattle.roots.proofs.square_roots.try_sqrt.Goals as goal

pub returns-then-is_zero : goal.returns-then-is_zero
returns-then-is_zero c = zero_rooted _ (eqb-true _ _ (sym c.is_zero.ensures.element ∙ c.if-is_zero.true))

pub returns-in_err-i : goal.returns-in_err-i
returns-in_err-i c = refuses c.loop-m.invariant _ (search rules) (search rules)

pub returns : goal.returns
returns c = ends c.loop-m.invariant _ (sym c.is_one.ensures ∙ c.loop-m-test.false) (search rules)
