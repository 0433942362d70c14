-- 01's example: three lines, and what the desk tool writes for them.
use Rattle.std.specs.Prelude.{List, [], ◌∷◌, ℕ}

-- `neg 0000000000000000`, `inv FFFFFFFF00000001` and `half 1`.
abbrev pub input : List ℕ
input =
    110 ∷ 101 ∷ 103 ∷ 32 ∷ 48 ∷ 48 ∷ 48 ∷ 48 ∷ 48 ∷ 48 ∷ 48 ∷ 48 ∷ 48 ∷ 48 ∷ 48 ∷ 48 ∷ 48 ∷ 48 ∷ 48 ∷ 48 ∷ 10
    ∷ 105 ∷ 110 ∷ 118 ∷ 32 ∷ 70 ∷ 70 ∷ 70 ∷ 70 ∷ 70 ∷ 70 ∷ 70 ∷ 70 ∷ 48 ∷ 48 ∷ 48 ∷ 48 ∷ 48 ∷ 48 ∷ 48 ∷ 49 ∷ 10
    ∷ 104 ∷ 97 ∷ 108 ∷ 102 ∷ 32 ∷ 49 ∷ 10 ∷ []

-- `FFFFFFFF00000001`, `refused 2` and `refused 8`.
abbrev pub output : List ℕ
output =
    70 ∷ 70 ∷ 70 ∷ 70 ∷ 70 ∷ 70 ∷ 70 ∷ 70 ∷ 48 ∷ 48 ∷ 48 ∷ 48 ∷ 48 ∷ 48 ∷ 48 ∷ 49 ∷ 10
    ∷ 114 ∷ 101 ∷ 102 ∷ 117 ∷ 115 ∷ 101 ∷ 100 ∷ 32 ∷ 50 ∷ 10
    ∷ 114 ∷ 101 ∷ 102 ∷ 117 ∷ 115 ∷ 101 ∷ 100 ∷ 32 ∷ 56 ∷ 10 ∷ []
