-- The loop's invariant: the bytes so far write digits, and make the word so far.
use Rattle.text.proofs.Reading.{Read}
use Rattle.text.proofs.digits.read_word.Given as goal

abbrev pub invariant-loop-byte : goal.invariant-loop-byte
invariant-loop-byte l = Read l.byte-index l.word l.digits
