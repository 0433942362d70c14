-- Pratt's certificate that a number is a prime, as a test that the checker computes, and the factors for P.
use mathlib.Core.Bool.{Bool, not, ◌&&◌}
use mathlib.Core.List.{List, [], ◌∷◌, ◌++◌}
use Prim.Native.Nat.{ℕ, suc, ◌*◌}
use lib.Dec.{eqb}
use lib.ListN.{replicate}
use Rattle.prime.proofs.Fast.{fast}

-- the product of the entries
abbrev pub product : List ℕ → ℕ
product [] = 1
product (x ∷ xs) = x * product xs

-- with N the product of n and qs: m is N + 1, and modulo m, g^N is 1 and g^(N / q) is not 1 for any q of qs
unfoldable pub pratt : ℕ → ℕ → ℕ → List ℕ → Bool
unfolding fast
pratt m g n [] = eqb (suc n) m && eqb (fast m g n) 1
pratt m g n (q ∷ qs) = not (eqb (fast m g (n * product qs)) 1) && pratt m g (n * q) qs

-- the odd prime factors of P - 1
abbrev pub odd_factors : List ℕ
odd_factors = 3 ∷ 5 ∷ 17 ∷ 257 ∷ 65537 ∷ []

-- P - 1 in prime factors: 2^32 · 3 · 5 · 17 · 257 · 65537
abbrev pub factors : List ℕ
factors = replicate 32 2 ++ odd_factors
