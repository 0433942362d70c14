-- The promises of the contracts, each under its name.
use Rattle.std.specs.Prelude.{ℕ, ◌%◌, List, length, ◌==◌, nat_le}
use Rattle.prime.specs.Modulus.{P}
use Rattle.answers.specs.Answers.{Answer}
use Rattle.answers.specs.Promises.{Answered}
use Rattle.sums.specs.Sums.{limit, total, sum_word, products, dot_word, dot_refusal}

-- The sum of the words ws; more than the limit are refused 5.
abbrev pub Summed : List ℕ → Answer → Type 0
Summed ws r = Answered (nat_le (length ws) limit) 5 (sum_word ws) (total ws % P) r

-- The sum of the products of xs and ys, pair by pair; lists that are not paired are refused 4, and more than the limit 5.
abbrev pub Dotted : List ℕ → List ℕ → Answer → Type 0
Dotted xs ys r = Answered (dot_refusal xs ys == 0) (dot_refusal xs ys) (dot_word xs ys) (total (products xs ys) % P) r
