-- The answer itself, by the promises: for those above who have to say which it is.
use mathlib.Core.Path.{◌≡◌, refl, ◌∙◌}
use mathlib.Core.Bool.{Bool, true, false, not, cond}
use Prim.Native.Nat.{ℕ, ◌%◌}
use lib.Dec.{eqb}
use Rattle.prime.specs.Modulus.{P}
use Rattle.answers.specs.Answers.{Answer}
use Rattle.std.specs.Prelude.{Ok, Err}
use Rattle.answers.specs.declared.refusals.Refusal.TheVariants.{InverseOfZero, NoSquareRoot}
use Rattle.answers.proofs.Told.{answered_is}
use Rattle.roots.specs.Roots.{inverse_word, is_square, root_word}
use Rattle.roots.specs.Promises.{Inverted, Rooted}

negated : (t : Bool) (a b : Answer) → cond (not t) a b ≡ cond t b a
negated true a b = refl
negated false a b = refl

pub inverted_is : (x : ℕ) {r : Answer} → Inverted x r → r ≡ cond (eqb (x % P) 0) (Err InverseOfZero) (Ok (inverse_word x))
inverted_is x h = answered_is (not (eqb (x % P) 0)) InverseOfZero h.answered ∙ negated (eqb (x % P) 0) _ _

pub rooted_is : (x : ℕ) {r : Answer} → Rooted x r → r ≡ cond (is_square x) (Ok (root_word x)) (Err NoSquareRoot)
rooted_is x h = answered_is (is_square x) NoSquareRoot h.answered
