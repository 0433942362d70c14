-- The loop's invariant: the first bytes are fed, but for those of the open line that are not kept yet.
use Rattle.desk_line.proofs.Unkept.{Unkept}
use Rattle.desk_line.proofs.desk.Desk.feed.Given as goal

abbrev pub invariant-loop-i : goal.invariant-loop-i
invariant-loop-i l = Unkept l.initial.self l.piece l.initial.out l.i l.begun l.self l.written l.out
