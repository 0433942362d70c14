-- What the contracts promise of an answer, each under its name.
use Rattle.std.specs.Prelude.{◌≡◌, Bool, cond, ℕ, ◌%◌}
use Rattle.prime.specs.Modulus.{P}
use Rattle.answers.specs.Answers.{Answer, refusal_of, word_of}

-- The word r is w, and stands for the element e.
pub record Held (w e r : ℕ) : Type 0 where
  pub word : r ≡ w
  pub element : r % P ≡ e

-- What is seen, r, is c by the canonical forms and e by the elements.
pub record Seen {A : Type 0} (c e r : A) : Type 0 where
  pub canonical : r ≡ c
  pub element : r ≡ e

-- Where the test t holds, the word w, which stands for the element e; elsewhere the refusal with the number n, and the word 0.
pub record Answered (t : Bool) (n w e : ℕ) (r : Answer) : Type 0 where
  pub refusal : refusal_of r ≡ cond t 0 n
  pub word : word_of r ≡ cond t w 0
  pub element : word_of r % P ≡ cond t e 0
