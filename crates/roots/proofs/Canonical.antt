-- The canonical words that are answered, each a power, and the promises made of them.
use mathlib.Core.Path.{◌≡◌, ap, ◌∙◌}
use mathlib.Core.Bool.{true, false, not}
use Prim.Native.Nat.{ℕ, ◌-◌, ◌*◌, ◌%◌, ◌^◌, ◌<◌}
use native.Mathlib.Nat.{lt_trans}
use borrow.Author.Tests.{eqb-true}
use lib.Dec.{eqb, lit<}
use Rattle.prime.specs.Modulus.{P, seventh}
use Rattle.prime.specs.Powers.{power}
use Rattle.prime.proofs.Powers.{power_mod, power_below}
use Rattle.prime.proofs.Theorems.{inverse_power, power_of_root}
use Rattle.answers.specs.declared.refusals.Refusal.TheVariants.{InverseOfZero}
use Rattle.std.specs.Prelude.{Ok, Err}
use Rattle.answers.proofs.Stands.{Stands, held, granted, refused}
use Rattle.words.specs.Words.{canonical}
use Rattle.words.proofs.Laws.{canonical_is}
use Rattle.roots.specs.Promises.{Inverted, SeventhRoot}

-- a power is below P, so it is a word and stands for itself
pub power_stands : (x e : ℕ) → Stands (power P x e) (power P x e)
power_stands x e = record { below = lt_trans (power_below P x e (lit< tt)) (lit< tt); element = power_mod P x e }

-- the canonical form r of a word y that stands for a power of x
module _ (x y : ℕ) {r : ℕ} (below : y < 2 ^ 64) (form : r ≡ canonical y) where
  pub power_word : (e : ℕ) → y % P ≡ power P x e → r ≡ power P x e
  power_word e h = form ∙ canonical_is y below ∙ h

  pub inverted : y % P ≡ power P x (P - 2) → eqb (x % P) 0 ≡ false → Inverted x (Ok r)
  inverted h z = record {
    answered = granted _ (ap not z) (power_word (P - 2) h) (power_stands x (P - 2));
    product = λ n. ap (λ (i : ℕ). x * i % P) (power_word (P - 2) h) ∙ inverse_power x n;
  }

  pub seventh_root : y % P ≡ power P x seventh → SeventhRoot x r
  seventh_root h = record {
    held = held (power_word seventh h) (power_stands x seventh);
    seventh_power = ap (λ (i : ℕ). power P i 7) (power_word seventh h) ∙ power_of_root x;
  }

-- and the inverse of zero
pub not_inverted : (x : ℕ) → eqb (x % P) 0 ≡ true → Inverted x (Err InverseOfZero)
not_inverted x z = record { answered = refused _ InverseOfZero (ap not z); product = λ n. absurd (n (eqb-true (x % P) 0 z)) }
