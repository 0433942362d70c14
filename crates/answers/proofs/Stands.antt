-- Words and the elements that they stand for, and how a contract's promise is made of them.
use mathlib.Core.Path.{◌≡◌, refl, ap, ◌∙◌}
use mathlib.Core.Bool.{Bool, true, false, true≢false, false≢true}
use Prim.Native.Nat.{ℕ, ◌%◌, ◌^◌, ◌<◌}
use Rattle.prime.specs.Modulus.{P}
use Rattle.answers.specs.declared.refusals.Refusal.{Refusal}
use Rattle.std.specs.Prelude.{Ok, Err}
use Rattle.answers.specs.Answers.{number}
use Rattle.answers.specs.Promises.{Held, Answered}

-- w is a word, and stands for the element e
pub record Stands (e w : ℕ) : Type 0 where
  pub below : w < 2 ^ 64
  pub element : w % P ≡ e

-- any word, for its own element
pub itself : (x : ℕ) → x < 2 ^ 64 → Stands (x % P) x
itself x h = record { below = h; element = refl }

-- the same word, for an element written otherwise
pub to : {e f w : ℕ} → e ≡ f → Stands e w → Stands f w
to h s = record { below = s.below; element = s.element ∙ h }

-- a word that is answered by its rule
pub held : {e w r : ℕ} → r ≡ w → Stands e w → Held w e r
held f s = record { word = f; element = ap (λ (n : ℕ). n % P) f ∙ s.element }

-- what is answered of a word that another step has answered
pub through : (f : ℕ → ℕ) {r a w : ℕ} → a ≡ w → r ≡ f a → r ≡ f w
through f e g = g ∙ ap f e

-- an answer that is given, and one that is refused
pub granted : (t : Bool) {n w e v : ℕ} → t ≡ true → v ≡ w → Stands e w → Answered t n w e (Ok v)
granted true {v = v} h f s = record { refusal = refl; word = f; element = (held f s).element }
granted false h f s = absurd (false≢true h)

pub refused : (t : Bool) {w e : ℕ} (r : Refusal) → t ≡ false → Answered t (number r) w e (Err r)
refused true r h = absurd (true≢false h)
refused false r h = record { refusal = refl; word = refl; element = refl }
