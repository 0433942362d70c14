-- A word is none, or both are used; the second is all that stands behind the first.
use mathlib.Core.Path.{sym, ap, ◌∙◌}
use native.Mathlib.Omega.{arith}
use lib.Seq.{take_all}
use Rattle.desk_line.specs.Promises.{read_word}
use Rattle.desk_line.proofs.Shapes.{rest_all}
use Rattle.desk_line.proofs.Parts.{first_none, second_none, two_named}
use Rattle.desk_line.proofs.lines.two_words.Goals as goal

pub returns-in_err-x : goal.returns-in_err-x
returns-in_err-x c = grind (arith, first_none)

pub returns-in_err-y : goal.returns-in_err-y
returns-in_err-y c = grind (arith, second_none, take_all)

pub returns : goal.returns
returns c =
    let rest = c.args.rest.now in
    let second = c.read_word-2.ensures ∙ ap read_word (rest_all 17 rest) in
    c.of_two.ensures ∙ sym (two_named _ rest c.requires _ _ (sym c.read_word.ensures ∙ c.in_ok-x.was) (sym second ∙ c.in_ok-y.was))
