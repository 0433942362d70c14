-- How answers go out of the library, where there are numbers only.
use Rattle.std.specs.Prelude.{◌≡◌, ℕ, ℤ, pos, negsuc}
use Rattle.answers.specs.Answers.{Answer}
use Rattle.answers.specs.Answers.{refusal_of, word_of, coded_refusal, index_of}
use Rattle.answers.specs.Answers.{Coded}
use Rattle.std.specs.declared.cmp.Ordering.{Ordering}
use Rattle.std.specs.declared.cmp.Ordering.TheVariants.{Less, Equal, Greater}

-- The refusal's number, 0 for none, and the word, 0 with a refusal.
abbrev pub number_and_word : Answer → ℕ × ℕ
number_and_word a = (refusal_of a, word_of a)

-- The refusal's number, 0 for none, and the index beside it.
abbrev pub number_and_index : Coded → ℕ × ℕ
number_and_index a = (coded_refusal a, index_of a)

-- A comparison as a number below, at or above 0.
abbrev pub sign : Ordering → ℤ
sign Less = negsuc 0
sign Equal = pos 0
sign Greater = pos 1

-- What goes out, o, is what `hand` makes of an answer that meets the promise.
pub record Handed {A O : Type 0} (hand : A → O) (Promise : A → Type 0) (o : O) : Type 0 where
  pub answer : A
  pub promised : Promise answer
  pub handed : o ≡ hand answer
