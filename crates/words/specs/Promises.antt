-- The promises of the contracts that may refuse, each under its name.
use Rattle.std.specs.Prelude.{ℕ, ◌%◌, ◌^◌, ℤ, nat_le, nat_lt}
use Rattle.prime.specs.Modulus.{P}
use Rattle.prime.specs.Elements.{residue}
use Rattle.answers.specs.Answers.{Answer}
use Rattle.answers.specs.Promises.{Answered}
use Rattle.words.specs.Words.{canonical, from_i64_word, in_range}

-- The word x where it is canonical; any other is refused 1.
abbrev pub CheckedU64 : ℕ → Answer → Type 0
CheckedU64 x r = Answered (nat_lt x P) 1 x (x % P) r

-- The word of the signed number n where it is in range; any other is refused 1.
abbrev pub CheckedI64 : ℤ → Answer → Type 0
CheckedI64 n r = Answered (in_range n) 1 (from_i64_word n) (residue n) r

-- The slot of k bits of x; above 32 bits it is refused 7.
abbrev pub Slotted : ℕ → ℕ → Answer → Type 0
Slotted x k r = Answered (nat_le k 32) 7 (canonical x % 2 ^ k) (x % P % 2 ^ k) r
