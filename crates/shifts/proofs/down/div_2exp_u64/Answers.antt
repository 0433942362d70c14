-- Each arm of the match is the rule.
use mathlib.Core.Path.{◌∙◌}
use native.Mathlib.Omega.{arith}
use borrow.Author.Rules.{rules}
use Rattle.answers.proofs.Stands.{held}
use Rattle.shifts.proofs.Arms.{down_none, down_once, down_split, down_up}
use Rattle.shifts.proofs.PowersOfTwo.{shift_down_stands}
use Rattle.shifts.proofs.down.div_2exp_u64.Goals as goal

pub returns-in-0 : goal.returns-in-0
returns-in-0 c = held (down_none _ _ c.in-0.is) (shift_down_stands _ _ (search rules))

pub returns-in-1 : goal.returns-in-1
returns-in-1 c = held (c.halve.ensures.word ∙ down_once _ _ c.in-1.is) (shift_down_stands _ _ (search rules))

pub returns-in-2-to-32 : goal.returns-in-2-to-32
returns-in-2-to-32 c = held (c.div_by_split.ensures ∙ down_split _ _ (omega arith) (omega arith)) (shift_down_stands _ _ (search rules))

pub returns-in_default : goal.returns-in_default
returns-in_default c = held (c.mul_2exp_u64.ensures.word ∙ down_up _ _ (omega arith)) (shift_down_stands _ _ (search rules))
