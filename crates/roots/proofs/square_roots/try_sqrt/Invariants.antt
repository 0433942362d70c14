-- The loop makes the turns, and each brings m down.
use Rattle.roots.proofs.SquareRootTurns.{Progress}
use Rattle.roots.proofs.square_roots.try_sqrt.Given as goal

abbrev pub invariant-loop-m : goal.invariant-loop-m
invariant-loop-m l = Progress l.x l.r l.t l.m

abbrev pub decreases-loop-m : goal.decreases-loop-m
decreases-loop-m l = l.m
