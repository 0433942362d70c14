-- A shift down takes the quotient by a power of two; from 64 bits on nothing of a word is left.
use Rattle.std.proofs.Common.{◌-◌, sym, refl, lt_of_lt_of_le, le_of_lt, sub-add_cancel, pow_pos, pow_mono, shr_lt}
use native.Mathlib.Nat.{div-eq_of_lt}
use Rattle.limbs.proofs.bits.high_bits.Goals as goal

pub returns-then-count-lt64 : goal.returns-then-count-lt64
returns-then-count-lt64 c =
    let count = c.args.count in
    (refl, shr_lt (64 - count) count (rw (sub-add_cancel (le_of_lt c.if-count-lt64.true)) c.ranges.x.fits))

pub returns-else-count-lt64 : goal.returns-else-count-lt64
returns-else-count-lt64 c =
    (sym (div-eq_of_lt (lt_of_lt_of_le c.ranges.x.fits (pow_mono {i = 64} c.if-count-lt64.false))), pow_pos (64 - c.args.count))
