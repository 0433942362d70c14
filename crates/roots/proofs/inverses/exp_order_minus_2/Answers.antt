-- The chain goes on from x^(2^31 - 1); the last exponent computes to P - 2.
use Prim.Native.Nat.{◌-◌, ◌^◌}
use Rattle.roots.proofs.Exponents.{Raised, first, linked}
use Rattle.roots.proofs.inverses.exp_order_minus_2.Goals as goal

pub returns : goal.returns
returns c =
    let x31 : Raised _ (2 ^ 31 - 1) _ = record { power_is = c.exp_2_31_minus_1-x31.ensures } in
    let x63 = linked _ x31 x31 c.link-x63.ensures in
    (linked _ x63 (first _) c.link.ensures).power_is
