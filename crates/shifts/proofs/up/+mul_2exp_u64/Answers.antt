-- Each arm of the match is the rule.
use Rattle.std.proofs.Common.{ap, ap₂, ◌∙◌, arith, rules}
use Rattle.answers.proofs.Stands.{held}
use Rattle.words.specs.Words.{mul_word}
use Rattle.shifts.proofs.Arms.{up_none, up_once, up_table, up_negative, up_rest}
use Rattle.shifts.proofs.PowersOfTwo.{shift_up_stands}
use Rattle.shifts.proofs.up.+mul_2exp_u64.Goals as goal

pub returns-in-0 : goal.returns-in-0
returns-in-0 t c = held (up_none _ _ c.in-0.is) (shift_up_stands _ _ (search rules))

pub returns-in-1 : goal.returns-in-1
returns-in-1 t c = held (c.add.ensures.word ∙ up_once _ _ c.in-1.is) (shift_up_stands _ _ (search rules))

pub returns-in-2-to-95 : goal.returns-in-2-to-95
returns-in-2-to-95 t c = held (c.mul.ensures.word ∙ ap (mul_word c.args.x) c.power_of_two.ensures ∙ up_table _ _ (omega arith) (omega arith)) (shift_up_stands _ _ (search rules))

pub returns-in-96-to-191 : goal.returns-in-96-to-191
returns-in-96-to-191 t c =
    held (c.mul-in-96-to-191.ensures.word ∙ ap₂ mul_word c.neg.ensures.word c.power_of_two-in-96-to-191.ensures ∙ up_negative _ _ (omega arith) (omega arith))
    (shift_up_stands _ _ (search rules))

pub returns-in_default : goal.returns-in_default
returns-in_default t c = held (c.mul_2exp_u64.ensures.word ∙ up_rest _ _) (shift_up_stands _ _ (search rules))
