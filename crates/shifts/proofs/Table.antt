-- The table of the source: the checker computes each power of two and compares.
use Rattle.std.proofs.Common.{◌≡◌, ℕ, ◌<◌, true, get_or, refl, eqb-true}
use Rattle.std.specs.Prelude.{◌==◌}
use Rattle.std.proofs.lemmas.Bool.{agree_below_at}
use Rattle.shifts.specs.Shifts.{entry}
use Rattle.shifts.specs.declared.powers_of_two.TheConstants.{POWERS_OF_TWO}

pub table_at : (e : ℕ) → e < 96 → get_or POWERS_OF_TWO e 0 ≡ entry e
table_at e h = eqb-true _ _ (agree_below_at (λ k. get_or POWERS_OF_TWO k 0 == entry k) (λ _. true) 96 e refl h)
