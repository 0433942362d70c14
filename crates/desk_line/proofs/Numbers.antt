-- A refusal's number takes at most two digits: `refused N` has room for them.
use Prim.Native.Nat.{◌≤◌}
use native.Mathlib.Omega.{arith}
use lib.ListN.{length}
use Rattle.answers.specs.declared.refusals.Refusal.{Refusal}
use Rattle.answers.specs.Answers.{number}
use Rattle.answers.proofs.Told.{two_digits}
use Rattle.text.specs.Decimals.{decimal}
use Rattle.text.proofs.DecimalLaws.{length_decimal}

pub number_length : (r : Refusal) → length (decimal (number r)) ≤ 2
number_length r = length_decimal 2 (number r) (omega arith) (omega (arith, two_digits r))
