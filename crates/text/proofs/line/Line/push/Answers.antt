-- The line has one byte more, and one zero fewer stands behind it.
use native.Mathlib.Omega.{arith}
use borrow.Author.Rules.{rules}
use Rattle.text.proofs.LineLaws.{one_zero_less}
use Rattle.text.proofs.line.Line.push.Goals as goal

pub invariant_of-self : goal.invariant_of-self
invariant_of-self g c =
    let i = c.self.invariant in
    (omega (arith, c.if-self.true), search rules, one_zero_less g.row.N c.self.inside.len _ c.self.inside.bytes i.1 i.2)
