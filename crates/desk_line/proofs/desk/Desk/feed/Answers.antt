-- The loop's invariant: the first bytes are fed, but for those of the open line that are not kept yet.
use native.Mathlib.Omega.{arith}
use borrow.Author.Rules.{rules}
use lib.ListN.{length-take}
use Rattle.desk_line.proofs.Unkept.{unkept_none, line_unkept, byte_unkept, all_fed}
use Rattle.desk_line.proofs.desk.Desk.feed.Goals as goal
use Rattle.desk_line.proofs.desk.Desk.feed.Goals.{then-byte-eq-LINE_END, else-byte-eq-LINE_END}

pub loop-i-init : goal.loop-i-init
loop-i-init c = unkept_none _ _ _

-- the byte ended a line, or it did not
pub loop-i-preserved : goal.loop-i-preserved
loop-i-preserved c =
    let f = c.loop-i.invariant in
    let t = c.min-taken.result in
    elim c.if-byte-eq-LINE_END.branch [
      | then-byte-eq-LINE_END w ↦ rw (w.self-is, w.out-is, w.written-is, w.begun-is)
          (line_unkept t f (search rules) (search rules) c.self.view_is w.extend.ensures.fitted w.extend.ensures.joined (search rules) (grind arith) (grind arith) (search rules))
      | else-byte-eq-LINE_END w ↦ rw (w.self-is, w.out-is, w.written-is, w.begun-is) (byte_unkept t f (search rules) (search rules))
    ]

pub returns : goal.returns
returns c =
    let t = c.min-taken.result in
    all_fed t c.loop-i.invariant c.min-taken.ensures (omega (arith, c.loop-i-test.false, c.loop-i.auto.i-end, length-take t c.args.piece.now)) c.self-2.view_is c.extend-2.ensures.fitted c.extend-2.ensures.joined
