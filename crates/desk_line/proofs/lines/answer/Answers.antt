-- The length of a line decides what can stand on it.
use mathlib.Core.Path.{◌≡◌, ◌∙◌}
use borrow.Author.Rules.{rules}
use lib.ListN.{length}
use Rattle.desk_line.proofs.Shapes.{rest_all, of_37, of_20, of_21}
use Rattle.desk_line.proofs.lines.answer.Goals as goal

pub returns-in-37 : goal.returns-in-37
returns-in-37 c =
    let line = c.args.line.now in
    let h : length line ≡ 37 = search rules in
    c.two_words.ensures ∙ rw (rest_all 3 line) (of_37 line h)

pub returns-in-20 : goal.returns-in-20
returns-in-20 c =
    let line = c.args.line.now in
    let h : length line ≡ 20 = search rules in
    c.one_word.ensures ∙ rw (rest_all 3 line) (of_20 line h)

pub returns-in-21 : goal.returns-in-21
returns-in-21 c =
    let line = c.args.line.now in
    let h : length line ≡ 21 = search rules in
    c.one_word-in-21.ensures ∙ rw (rest_all 4 line) (of_21 line h)
