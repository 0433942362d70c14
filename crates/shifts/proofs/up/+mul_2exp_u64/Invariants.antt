-- The exponent of the call in the last arm is below 192, and so smaller.
use Rattle.shifts.proofs.up.+mul_2exp_u64.Given as goal

abbrev pub decreases-mul_2exp_u64 : goal.decreases-mul_2exp_u64
decreases-mul_2exp_u64 l = l.exp
