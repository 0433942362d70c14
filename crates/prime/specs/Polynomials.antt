-- Polynomials by the list of their coefficients, the constant one first.
use Rattle.std.specs.Prelude.{◌≡◌, ◌≢◌, List, [], ◌∷◌, ℕ, ◌+◌, ◌*◌, ◌%◌}
use Rattle.prime.specs.Lists.{Each}

-- The value at x, as a whole number.
unfoldable pub value : ℕ → List ℕ → ℕ
value x [] = 0
value x (c ∷ cs) = c + x * value x cs

-- x is a root modulo m.
abbrev pub Root : ℕ → List ℕ → ℕ → Type 0
Root m cs x = value x cs % m ≡ 0

-- The coefficients are all 0 modulo m.
abbrev pub Zero : ℕ → List ℕ → Type 0
Zero m cs = Each (λ (c : ℕ). c % m ≡ 0) cs

-- The entries are pairwise different modulo m.
abbrev pub Different : ℕ → List ℕ → Type 0
Different m [] = Unit {0}
Different m (x ∷ xs) = Each (λ (y : ℕ). x % m ≢ y % m) xs × Different m xs
