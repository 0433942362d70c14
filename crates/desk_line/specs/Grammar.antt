-- The lines that document 01 gives a meaning, each as it is written.
use Rattle.std.specs.Prelude.{List, ◌++◌, ℕ, ◌^◌, ◌<◌}
use Rattle.desk_line.specs.Replies.{spaced, add, sub, mul, neg, half, inv, root}

-- "A line is `add`, `sub`, `mul` (two words) or `neg`, `half`, `inv`, `root` (one)".
pub data Line : List ℕ → Type 0 where
  adds : (x y : ℕ) → x < 2 ^ 64 → y < 2 ^ 64 → Line (add ++ (spaced x ++ spaced y))
  subs : (x y : ℕ) → x < 2 ^ 64 → y < 2 ^ 64 → Line (sub ++ (spaced x ++ spaced y))
  muls : (x y : ℕ) → x < 2 ^ 64 → y < 2 ^ 64 → Line (mul ++ (spaced x ++ spaced y))
  negs : (x : ℕ) → x < 2 ^ 64 → Line (neg ++ spaced x)
  halves : (x : ℕ) → x < 2 ^ 64 → Line (half ++ spaced x)
  invs : (x : ℕ) → x < 2 ^ 64 → Line (inv ++ spaced x)
  roots : (x : ℕ) → x < 2 ^ 64 → Line (root ++ spaced x)
