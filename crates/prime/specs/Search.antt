-- Numbers by search.
use Rattle.std.specs.Prelude.{Bool, cond, ℕ, zero, suc}

-- The least number below n that passes the test t, n if none does.
unfoldable pub least : (ℕ → Bool) → ℕ → ℕ
least t zero = zero
least t (suc n) = cond (t zero) zero (suc (least (λ k. t (suc k)) n))
