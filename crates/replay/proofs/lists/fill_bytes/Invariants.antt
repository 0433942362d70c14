-- The loop's invariant: the bytes up to the place are right, and the next is one of the word's.
use Rattle.std.proofs.Common.{◌≡◌, ℕ, ◌/◌, ◌<◌, get_or}
use Rattle.replay.specs.Lists.{term, term_byte}
use Rattle.replay.proofs.lists.fill_bytes.Given as goal

abbrev pub invariant-loop-place : goal.invariant-loop-place
invariant-loop-place l =
    record {
      next : l.word ≡ term l.first l.step (l.place / 8);
      filled : (k : ℕ) → k < l.place → get_or l.bytes k 0 ≡ term_byte l.first l.step k;
    }
