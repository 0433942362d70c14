-- The loop's invariant: the words up to the place are right, and so is the next.
use Rattle.std.proofs.Common.{◌≡◌, ℕ, ◌<◌, get_or}
use Rattle.replay.specs.Lists.{term}
use Rattle.replay.proofs.lists.fill_words.Given as goal

abbrev pub invariant-loop-item : goal.invariant-loop-item
invariant-loop-item l =
    record {
      next : l.word ≡ term l.first l.step l.item-index;
      filled : (k : ℕ) → k < l.item-index → get_or l.words k 0 ≡ term l.first l.step k;
    }
