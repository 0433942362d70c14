-- The search so far: t2i is t^(2^i), and no power before it is 1.
use Rattle.roots.proofs.SquareRootSearch.{Searching}
use Rattle.roots.proofs.square_roots.order_log.Given as goal

abbrev pub invariant-loop-i : goal.invariant-loop-i
invariant-loop-i l = Searching l.t l.i l.t2i
