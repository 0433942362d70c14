-- The steps of `reduce128`.
use Rattle.std.proofs.Common.{◌≡◌, ℕ, ◌+◌, ◌-◌, ◌*◌, ◌/◌, ◌%◌, ◌^◌}
use Rattle.words.specs.Words.{less_P, plus_P, reduce_word}

-- the steps of `reduce128`
pub reduced : (lo hi h t0 t1 : ℕ) → h ≡ hi / 2 ^ 32 → t0 ≡ plus_P lo h → t1 ≡ hi % 2 ^ 32 * (2 ^ 32 - 1) → less_P (t0 + t1) ≡ reduce_word lo hi
unfolding reduce_word
reduced lo hi h t0 t1 a b c = rw (c, b, a)
