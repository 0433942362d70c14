-- The parts have room, and the code is the rule.
use mathlib.Core.Path.{◌∙◌}
use borrow.Author.Rules.{rules}
use native.Mathlib.Omega.{arith}
use Rattle.shifts.proofs.Arms.{split_steps}
use Rattle.shifts.proofs.PowersOfTwo.{low_room, high_room, taken_room}
use Rattle.shifts.proofs.down.div_by_split.Goals as goal

pub overflow_add-a : goal.overflow_add-a
overflow_add-a c =
    let lo = c.low_bits-lo in
    omega (
      arith,
      low_room _ (search rules) (search rules) 32 _ (search rules) lo.ensures.1,
      high_room _ c.requires.0 c.requires.1 _ c.ranges.x.fits,
    )

pub shift_left-b-requires : goal.shift_left-b-requires
shift_left-b-requires c =
    (search rules, omega (arith, taken_room _ (search rules) (search rules) _ c.low_bits-lo.ensures.1))

pub returns : goal.returns
returns c =
    let lo = c.low_bits-lo.ensures in
    c.sub_once.ensures (omega (arith, taken_room _ (search rules) (search rules) _ lo.1))
    ∙ split_steps _ _ _ _ _ _ lo.0 c.high_bits-hi.ensures.0
    c.shift_left.ensures c.shift_left-b.ensures
