-- When coding refuses, and with which number.
use Rattle.std.specs.Prelude.{cond, List, ℕ, ◌*◌, ◌==◌, nat_le, nat_lt, length}
use Rattle.wire.specs.Wire.{groups, first_bad}

-- 01, refusal 5: "more than 4,096 words".
abbrev pub limit : ℕ
limit = 4096

-- "coding tests 5, 6": of n words and m bytes.
abbrev pub sizes : ℕ → ℕ → ℕ
sizes n m = cond (nat_le n limit) (cond (m == 8 * n) 0 6) 5

-- "then 1": of the groups, where the sizes fit.
abbrev pub reading : ℕ → List ℕ → ℕ
reading n bs = cond (sizes n (length bs) == 0) (cond (nat_lt (first_bad (groups n bs)) n) 1 0) (sizes n (length bs))
