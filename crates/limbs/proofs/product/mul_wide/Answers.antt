-- The product is that of the halves.
use Rattle.std.proofs.Common.{rules}
use Rattle.limbs.proofs.Products.{multiplied, bounded}
use Rattle.limbs.proofs.product.mul_wide.Goals as goal

pub returns : goal.returns
returns c =
    bounded 64 (search rules) (search rules)
    (multiplied _ _ c.high_bits-x_hi.ensures.0 c.high_bits-x_hi.ensures.1 c.high_bits-y_hi.ensures.0 c.high_bits-y_hi.ensures.1
    c.mul_halves-ll.ensures.0 c.mul_halves-lh.ensures.0 c.mul_halves-hl.ensures.0 c.mul_halves-hh.ensures.0 c.join.ensures)
