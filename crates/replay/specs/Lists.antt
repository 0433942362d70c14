-- The lists that a line stands for.
use Rattle.std.specs.Prelude.{ℕ, ◌+◌, ◌*◌, ◌/◌, ◌%◌, ◌^◌}

-- The word at the place k of those that begin with `first` and grow by `step`, modulo 2^64.
unfoldable pub term : ℕ → ℕ → ℕ → ℕ
term first step k = (first + k * step) % 2 ^ 64

-- The byte at the place k of these words, 8 bytes for each, the lowest first.
unfoldable pub term_byte : ℕ → ℕ → ℕ → ℕ
term_byte first step k = term first step (k / 8) / 2 ^ (8 * (k % 8)) % 256
