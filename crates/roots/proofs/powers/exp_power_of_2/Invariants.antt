-- After each turn `res` stands for x^(2^counter).
use Prim.Native.Nat.{◌^◌}
use Rattle.roots.proofs.Exponents.{Raised}
use Rattle.roots.proofs.powers.exp_power_of_2.Given as goal

abbrev pub invariant-loop : goal.invariant-loop
invariant-loop l = Raised l.x (2 ^ l.counter) l.res
