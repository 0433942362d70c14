-- The promises of the contracts: the canonical word that document 01 gives, and what it is good for.
use Rattle.std.specs.Prelude.{◌≡◌, not, ◌≢◌, ℕ, ◌*◌, ◌%◌, ◌==◌, nat_le}
use Rattle.prime.specs.Modulus.{P}
use Rattle.prime.specs.Powers.{power}
use Rattle.prime.specs.Residues.{Square}
use Rattle.answers.specs.Answers.{Answer}
use Rattle.answers.specs.Answers.{refusal_of, word_of}
use Rattle.answers.specs.Promises.{Held, Answered}
use Rattle.roots.specs.Roots.{generator_word, inverse_word, seventh_word, is_square, root_word}

-- Zero is refused 2; any other x gives its inverse, whose product with x is 1.
pub record Inverted (x : ℕ) (r : Answer) : Type 0 where
  pub answered : Answered (not (x % P == 0)) 2 (inverse_word x) (inverse_word x) r
  pub product : x % P ≢ 0 → x * word_of r % P ≡ 1

-- Where no element squares to x it is refused 3; else the answer is document 01's root, and it squares to x.
pub record Rooted (x : ℕ) (r : Answer) : Type 0 where
  pub answered : Answered (is_square x) 3 (root_word x) (root_word x) r
  pub none : refusal_of r ≡ 3 → ¬ Square P x
  pub squares : Square P x → word_of r * word_of r % P ≡ x % P

-- The seventh root of x, whose seventh power is x.
pub record SeventhRoot (x r : ℕ) : Type 0 where
  pub held : Held (seventh_word x) (seventh_word x) r
  pub seventh_power : power P r 7 ≡ x % P

-- The generator of 2^bits elements; above 32 bits it is refused 7.
abbrev pub Generated : ℕ → Answer → Type 0
Generated bits r = Answered (nat_le bits 32) 7 (generator_word bits) (generator_word bits) r
