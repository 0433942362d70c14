-- An answer is determined by the numbers that the promises speak of.
use mathlib.Core.Path.{◌≡◌, refl, sym, ap₂, ◌∙◌}
use mathlib.Core.Bool.{Bool, true, false, cond}
use mathlib.Core.List.{List, [], ◌∷◌}
use Prim.Native.Nat.{ℕ, zero, suc, ◌≤◌}
use native.Mathlib.Omega.{arith}
use lib.ListN.{get_or}
use Rattle.answers.specs.declared.refusals.Refusal.{Refusal}
use Rattle.answers.specs.declared.refusals.Refusal.TheVariants.{OutOfRange, InverseOfZero, NoSquareRoot, LengthsDiffer, TooMany, WrongLength, Above32, Unreadable}
use Rattle.std.specs.Prelude.{Ok, Err}
use Rattle.answers.specs.Answers.{number, Answer, refusal_of, word_of, Coded, coded_refusal, index_of}
use Rattle.answers.specs.Promises.{Answered}

refusals : List Refusal
refusals = OutOfRange ∷ InverseOfZero ∷ NoSquareRoot ∷ LengthsDiffer ∷ TooMany ∷ WrongLength ∷ Above32 ∷ Unreadable ∷ []

-- z for no refusal, f of the refusal of each number
unfoldable pub numbered : {A : Type 0} → A → (Refusal → A) → ℕ → A
unfolding refusals
numbered z f zero = z
numbered z f (suc n) = f (get_or refusals n OutOfRange)

pub numbered_is : {A : Type 0} (z : A) (f : Refusal → A) (r : Refusal) → f r ≡ numbered z f (number r)
unfolding refusals numbered
numbered_is z f OutOfRange = refl
numbered_is z f InverseOfZero = refl
numbered_is z f NoSquareRoot = refl
numbered_is z f LengthsDiffer = refl
numbered_is z f TooMany = refl
numbered_is z f WrongLength = refl
numbered_is z f Above32 = refl
numbered_is z f Unreadable = refl

pub told : ℕ → ℕ → Answer
told n w = numbered (Ok w) Err n

pub told_is : (r : Answer) → r ≡ told (refusal_of r) (word_of r)
unfolding told numbered
told_is (Ok w) = refl
told_is (Err r) = numbered_is (Ok 0) Err r

pub told_by : {t : Bool} {n w e : ℕ} {r : Answer} → Answered t n w e r → r ≡ told (cond t 0 n) (cond t w 0)
told_by {r = r} h = told_is r ∙ ap₂ told h.refusal h.word

-- the answer itself, by the test
pub answered_is : (t : Bool) (k : Refusal) {w e : ℕ} {r : Answer} → Answered t (number k) w e r → r ≡ cond t (Ok w) (Err k)
unfolding told numbered
answered_is true k h = told_by h
answered_is false k h = told_by h ∙ sym (numbered_is (Ok 0) Err k)

-- ---- and so is what coding answers

pub coded : ℕ → ℕ → Coded
coded n i = numbered (Ok tt) (λ r. Err (record { refusal = r; index = i })) n

pub coded_is : (r : Coded) → r ≡ coded (coded_refusal r) (index_of r)
unfolding coded numbered
coded_is (Ok u) = refl
coded_is (Err e) = numbered_is (Ok tt) (λ r. Err (record { refusal = r; index = e.index })) e.refusal

-- ---- a refusal's number has at most two digits: the papers' numbers grow with the requests, and this bound is for all of them

pub two_digits : (r : Refusal) → number r ≤ 99
two_digits OutOfRange = omega arith
two_digits InverseOfZero = omega arith
two_digits NoSquareRoot = omega arith
two_digits LengthsDiffer = omega arith
two_digits TooMany = omega arith
two_digits WrongLength = omega arith
two_digits Above32 = omega arith
two_digits Unreadable = omega arith
