-- A table is a `match` on the entry's number, whose last arm is for the number that no key is.
use mathlib.Core.Path.{◌≡◌}
use Prim.Native.Nat.{ℕ, zero, suc, ◌≤◌}
use native.Mathlib.Omega.{arith}

-- i is none of the keys 0 to n - 1: what the last arm knows
abbrev pub NoKey : ℕ → ℕ → Type 0
NoKey zero i = Unit
NoKey (suc n) i = NoKey n i × (i ≡ n → ⊥)

pub past_keys : (n i : ℕ) → NoKey n i → n ≤ i
past_keys zero i h = omega arith
past_keys (suc n) i h = omega (arith, past_keys n i h.0, h.1)
