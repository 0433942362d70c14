-- The loop's invariant: what was read is within the piece. Its measure: the room left.
use Rattle.std.proofs.Common.{◌-◌, ◌≤◌, length}
use Rattle.replay.proofs.fill.Given as goal

abbrev pub invariant-loop-at : goal.invariant-loop-at
invariant-loop-at g l = l.at ≤ length l.piece

abbrev pub decreases-loop-at : goal.decreases-loop-at
decreases-loop-at g l = length l.piece - l.at
