-- One turn of the loop: the word is in its place, and the next is one step further.
use Rattle.std.proofs.Common.{◌<◌, ◌≢◌, length, refl, arith, get_or-set_other, get_or-set_same, below_more}
use Rattle.replay.proofs.Terms.{next_term}
use Rattle.replay.proofs.lists.fill_words.Goals as goal

pub loop-item-preserved : goal.loop-item-preserved
loop-item-preserved c =
    let inv = c.loop-item.invariant in
    record {
      next = next_term _ _ _ inv.next refl;
      filled =
          below_more _ _
          (λ k h. let ne : k ≢ c.loop-item.item-index = omega arith in rw get_or-set_other (inv.filled k h))
          (let lt : c.loop-item.item-index < length c.loop-item.words = omega arith in rw get_or-set_same inv.next);
    }
