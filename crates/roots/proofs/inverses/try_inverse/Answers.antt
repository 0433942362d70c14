-- Zero is refused, and elsewhere the canonical form of x^(P - 2) is the inverse.
use mathlib.Core.Path.{sym, ◌∙◌}
use borrow.Author.Rules.{rules}
use Rattle.roots.proofs.Canonical.{inverted}
use Rattle.roots.proofs.inverses.try_inverse.Goals as goal

pub returns : goal.returns
returns c =
    inverted _ c.exp_order_minus_2.result (search rules) (search rules) c.exp_order_minus_2.ensures
    (sym c.is_zero.ensures.element ∙ c.if-is_zero.false)
