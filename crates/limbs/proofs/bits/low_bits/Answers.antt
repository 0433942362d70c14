-- A mask of ones takes the remainder by a power of two; from 64 bits on a word is below that power.
use Rattle.std.proofs.Common.{◌≡◌, ℕ, ◌*◌, ◌%◌, ◌^◌, ◌<◌, sym, ◌∙◌, lt_of_lt_of_le, mod-eq_of_lt, one-mul, arith, lit<, pow_mono, shl_exact}
use lib.Bits.{and_mask, mask_lt}
use Rattle.limbs.proofs.bits.low_bits.Goals as goal

bit : (k : ℕ) → k < 64 → 1 * 2 ^ k % 2 ^ 64 ≡ 2 ^ k
bit k h = shl_exact 1 k 64 (lit< tt) (omega arith) ∙ one-mul (2 ^ k)

pub returns-then-count-lt64 : goal.returns-then-count-lt64
returns-then-count-lt64 c =
    rw (bit c.args.count c.if-count-lt64.true)
    (and_mask c.args.x c.args.count, mask_lt c.args.x c.args.count)

pub returns-else-count-lt64 : goal.returns-else-count-lt64
returns-else-count-lt64 c =
    let below : c.args.x < 2 ^ c.args.count = lt_of_lt_of_le c.ranges.x.fits (pow_mono {i = 64} c.if-count-lt64.false) in
    (sym (mod-eq_of_lt below), below)
