-- Each link appends ones to the exponent; the last exponent computes to 2^31 - 1.
use Rattle.roots.proofs.Exponents.{first, linked}
use Rattle.roots.proofs.powers.exp_2_31_minus_1.Goals as goal

pub returns : goal.returns
returns c =
    let x1 = first _ in
    let x2 = linked _ x1 x1 c.link-x2.ensures in
    let x3 = linked _ x2 x1 c.link-x3.ensures in
    let x6 = linked _ x3 x3 c.link-x6.ensures in
    let x12 = linked _ x6 x6 c.link-x12.ensures in
    let x24 = linked _ x12 x12 c.link-x24.ensures in
    let x30 = linked _ x24 x6 c.link-x30.ensures in
    (linked _ x30 x1 c.link.ensures).power_is
