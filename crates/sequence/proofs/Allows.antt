-- A contract that some answer fits allows what is made of that answer: the parts of `Allows`, put together.
use mathlib.Core.Path.{◌≡◌, refl}
use Prim.Native.Nat.{ℕ}
use denote.Bor.{Bor}
use denote.MutBor.{MutBor}
use Rattle.sequence.specs.Outcomes.{Outcome}
use Rattle.sequence.specs.Allows.{One, Two}

-- what is lent, wherever it lies
abbrev pub lent : {X : Type 0} → X → Bor X
lent x = record { ref_ptr = (0, 0); now = x }

-- and what is lent to be changed
abbrev pub lent_mut : {X : Type 0} → X → MutBor X
lent_mut x = record { ref_ptr = (0, 0); ghost_name = 0; now = x }

-- a call on one argument, and on two; each is at exit what it was
pub one : {Says X R : Type 0} {C : Unit {0} → X × Unit {0} → R → X × Unit {0} → Type 0} {of : R → Outcome Says ℕ} {o : Outcome Says ℕ} (x : X) (r : R)
    → C tt (x, tt) r (x, tt) → o ≡ of r → One C x of o
one x r h e = (tt, (x, tt), r, (x, tt), refl, h, e)

pub two : {Says X Y R : Type 0} {C : Unit {0} → X × (Y × Unit {0}) → R → X × (Y × Unit {0}) → Type 0} {of : R → Outcome Says ℕ} {o : Outcome Says ℕ}
    (x : X) (y : Y) (r : R) → C tt (x, (y, tt)) r (x, (y, tt)) → o ≡ of r → Two C x y of o
two x y r h e = (tt, (x, (y, tt)), r, (x, (y, tt)), (refl, refl), h, e)
