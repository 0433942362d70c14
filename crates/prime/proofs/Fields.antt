-- Inverses and generators modulo m, as data: what the proofs over any modulus hand to each other.
use mathlib.Core.Path.{◌≡◌}
use mathlib.Core.Logic.{◌⊎◌, ◌≢◌}
use Prim.Native.Nat.{ℕ, suc, ◌+◌, ◌*◌, ◌%◌, ◌<◌}
use Rattle.prime.specs.Powers.{power}
use Rattle.prime.specs.Residues.{Multiple}

-- u is an inverse of x modulo m, and v says by how many m the product is above 1
abbrev pub Inverse : ℕ → ℕ → Type 0
Inverse m x = (u : ℕ) × (v : ℕ) × (x * u ≡ 1 + m * v)

-- each number is a multiple of m or has an inverse modulo m; an m above 1 is then a prime (`prime` of Inverses.antt)
abbrev pub Field : ℕ → Type 0
Field m = (x : ℕ) → Multiple m x ⊎ Inverse m x

-- modulo n + 1 the powers of g reach every number that is not 0, and g^d is 1 exactly at the multiples d of n
pub record Generates (n g : ℕ) : Type 0 where
  pub one : power (suc n) g n ≡ 1
  pub only : (d : ℕ) → power (suc n) g d ≡ 1 → Multiple n d
  pub log : (x : ℕ) → x % suc n ≢ 0 → (i : ℕ) × (i < n) × (power (suc n) g i ≡ x % suc n)
