-- The loop's invariant: the bytes so far write digits, and make the word so far.
use borrow.Author.Rules.{rules}
use Rattle.text.proofs.Reading.{read_none, read_next}
use Rattle.text.proofs.digits.read_word.Goals as goal

pub loop-byte-init : goal.loop-byte-init
loop-byte-init c = read_none _

pub loop-byte-preserved : goal.loop-byte-preserved
loop-byte-preserved c = let e = c.in_ok-word.ensures in read_next _ _ _ _ (search rules) e.0 e.1 c.loop-byte.invariant
