-- The sums of the halves make the sum so far, and each is below 2^32 for each word.
use Rattle.std.proofs.Common.{◌≡◌, ◌+◌, ◌-◌, ◌*◌, ◌^◌, ◌≤◌, take}
use Rattle.sums.specs.Sums.{total}
use Rattle.sums.proofs.sum.exact_sum.Given as goal

abbrev pub invariant-loop-x : goal.invariant-loop-x
invariant-loop-x l = record {
  low_most : l.low ≤ l.x-index * (2 ^ 32 - 1);
  high_most : l.high ≤ l.x-index * (2 ^ 32 - 1);
  so_far : l.low + 2 ^ 32 * l.high ≡ total (take l.x-index l.input);
}
