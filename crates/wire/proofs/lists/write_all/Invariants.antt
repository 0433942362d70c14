-- The loop's invariant: the bytes written are those of the first words.
use mathlib.Core.Path.{◌≡◌}
use Prim.Native.Nat.{◌*◌}
use lib.ListN.{take}
use Rattle.wire.specs.Wire.{encoded}
use Rattle.wire.proofs.lists.write_all.Given as goal

abbrev pub invariant-loop-i : goal.invariant-loop-i
invariant-loop-i l = take (8 * l.i) l.bytes ≡ encoded (take l.i l.words)
