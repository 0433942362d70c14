-- Lists of numbers.
use Rattle.std.specs.Prelude.{List, [], ◌∷◌, ℕ}

-- Q holds of each entry.
abbrev pub Each : (ℕ → Type 0) → List ℕ → Type 0
Each Q [] = Unit {0}
Each Q (x ∷ xs) = Q x × Each Q xs
