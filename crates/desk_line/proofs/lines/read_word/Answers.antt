-- A word is read from its column.
use mathlib.Core.Path.{sym, ◌∙◌}
use Rattle.desk_line.proofs.Parts.{column_read}
use Rattle.desk_line.proofs.lines.read_word.Goals as goal

pub returns : goal.returns
returns c = c.ok_or.ensures.value ∙ sym (column_read c.args.bytes.now _ c.requires c.read_column.ensures)
