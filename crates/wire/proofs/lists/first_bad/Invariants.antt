-- The loop's invariant: the first bad group is found i groups on, in what is left.
use mathlib.Core.Path.{◌≡◌}
use Prim.Native.Nat.{◌+◌, ◌-◌, ◌*◌}
use lib.ListN.{drop}
use Rattle.wire.specs.Wire.{groups, first_bad}
use Rattle.wire.proofs.lists.first_bad.Given as goal

abbrev pub invariant-loop-i : goal.invariant-loop-i
invariant-loop-i l = first_bad (groups l.n l.bytes) ≡ l.i + first_bad (groups (l.n - l.i) (drop (8 * l.i) l.bytes))
