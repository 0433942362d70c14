-- A claim about a choice by a test follows from the claim about each side, under what the test then says.
use mathlib.Core.Path.{◌≡◌, refl}
use mathlib.Core.Bool.{Bool, true, false, cond}
use Prim.Native.Nat.{ℕ, ◌<◌, ◌≤◌}
use borrow.Author.Tests.{ltb-true, ltb-false, leb-true, leb-false, eqb-true, eqb-false}
use lib.Dec.{eqb, leb, ltb}

pub by_test : {A : Type 0} (C : A → Type 0) (t : Bool) {u v : A} → (t ≡ true → C u) → (t ≡ false → C v) → C (cond t u v)
by_test C true f g = f refl
by_test C false f g = g refl

pub by_lt : {A : Type 0} (C : A → Type 0) (a b : ℕ) {u v : A} → (a < b → C u) → (b ≤ a → C v) → C (cond (ltb a b) u v)
by_lt C a b f g = by_test C (ltb a b) (λ t. f (ltb-true a b t)) (λ t. g (ltb-false a b t))

pub by_le : {A : Type 0} (C : A → Type 0) (a b : ℕ) {u v : A} → (a ≤ b → C u) → (b < a → C v) → C (cond (leb a b) u v)
by_le C a b f g = by_test C (leb a b) (λ t. f (leb-true a b t)) (λ t. g (leb-false a b t))

pub by_eq : {A : Type 0} (C : A → Type 0) (a b : ℕ) {u v : A} → (a ≡ b → C u) → ((a ≡ b → ⊥) → C v) → C (cond (eqb a b) u v)
by_eq C a b f g = by_test C (eqb a b) (λ t. f (eqb-true a b t)) (λ t. g (eqb-false a b t))
