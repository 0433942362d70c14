-- The three cases of a comparison.
use Rattle.std.specs.Prelude.{ℕ, cond, ◌==◌, nat_lt}
use Rattle.std.specs.declared.cmp.Ordering.{Ordering}
use Rattle.std.specs.declared.cmp.Ordering.TheVariants.{Less, Equal, Greater}

-- How the number a compares with the number b.
abbrev pub order : ℕ → ℕ → Ordering
order a b = cond (nat_lt a b) Less (cond (a == b) Equal Greater)
