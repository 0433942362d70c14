-- One turn of the loop: the byte is in its place, and after the last of a word comes the next.
use Rattle.std.proofs.Common.{◌<◌, ◌≢◌, length, arith, get_or-set_other, get_or-set_same, below_more}
use Rattle.replay.specs.Lists.{term_byte}
use Rattle.replay.proofs.Terms.{byte_last, byte_within}
use Rattle.replay.proofs.lists.fill_bytes.Goals as goal
use Rattle.replay.proofs.lists.fill_bytes.Goals.{then-place-eq7, else-place-eq7}

pub loop-place-preserved : goal.loop-place-preserved
unfolding term_byte
loop-place-preserved c =
    let inv = c.loop-place.invariant in
    record {
      next =
          elim c.if-place-eq7.branch [
            | then-place-eq7 w ↦ byte_last _ _ _ w.if-place-eq7.true inv.next w.word-is
            | else-place-eq7 w ↦ byte_within _ _ _ w.if-place-eq7.false inv.next w.word-is
          ];
      filled =
          below_more _ _
          (λ k h. let ne : k ≢ c.loop-place.place = omega arith in rw get_or-set_other (inv.filled k h))
          (let lt : c.loop-place.place < length c.loop-place.bytes = omega arith in rw get_or-set_same (rw inv.next at c.byte_of.ensures));
    }
