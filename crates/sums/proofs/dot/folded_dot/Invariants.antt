-- Each sum is that of the pairs so far, and small for each pair.
use Rattle.std.proofs.Common.{◌≡◌, ◌-◌, ◌*◌, ◌^◌, ◌≤◌, length, take}
use Rattle.sums.specs.Sums.{products, low_sum, high_sum}
use Rattle.sums.proofs.dot.folded_dot.Given as goal

abbrev pub invariant-loop-x : goal.invariant-loop-x
invariant-loop-x l = record {
  low_most : l.low ≤ length l.yielded * (2 ^ 96 - 1);
  high_most : l.high ≤ length l.yielded * (2 ^ 32 - 1);
  low_so_far : l.low ≡ low_sum (take (length l.yielded) (products l.lhs l.rhs));
  high_so_far : l.high ≡ high_sum (take (length l.yielded) (products l.lhs l.rhs));
}
