-- Two pairs, by their list of products; and more.
use Rattle.std.proofs.Common.{arith}
use Rattle.std.proofs.lemmas.Grind.{common_steps}
use Rattle.sums.specs.Sums.{total, products, dot_products}
use Rattle.sums.proofs.Totals.{products_length}
use Rattle.sums.proofs.SumLaws.{dot_more}
use Rattle.sums.proofs.dot.dot_product.Goals as goal

pub returns-in-len2-len2 : goal.returns-in-len2-len2
unfolding total products dot_products
returns-in-len2-len2 c = grind (arith, common_steps)

pub returns-in_default : goal.returns-in_default
returns-in_default c = grind (arith, common_steps, dot_more, products_length)
