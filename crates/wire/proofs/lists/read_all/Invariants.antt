-- The loop's invariant: the words written are the first groups.
use mathlib.Core.Path.{◌≡◌}
use lib.ListN.{take}
use Rattle.wire.specs.Wire.{groups}
use Rattle.wire.proofs.lists.read_all.Given as goal

abbrev pub invariant-loop-i : goal.invariant-loop-i
invariant-loop-i l = take l.i l.words ≡ groups l.i l.bytes
