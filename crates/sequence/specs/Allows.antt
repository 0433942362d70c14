-- The outcomes that the contract of a function allows. For lifetimes k and arguments a, `C k a r t` is what the contract C tells of the answer r and of
-- what the parameters hold at exit, t.
use Rattle.std.specs.Prelude.{◌≡◌, ℕ}
use Rattle.sequence.specs.Outcomes.{Outcome}

-- o is what `of` makes of an answer that C allows, from arguments of which `given` holds.
abbrev pub Allows : {Says K : Type 0} {A R S : K → Type 0} → ((k : K) → A k → R k → S k → Type 0)
    → ((k : K) → A k → Type 0) → ((k : K) → R k → S k → Outcome Says ℕ) → Outcome Says ℕ → Type 0
Allows {Says} {K} {A} {R} {S} C given of o = (k : K) × (a : A k) × (r : R k) × (t : S k) × given k a × C k a r t × (o ≡ of k r t)

-- The same for a function of one argument that is not lent, called on x.
abbrev pub One : {Says X R : Type 0} → (Unit {0} → X × Unit {0} → R → X × Unit {0} → Type 0) → X → (R → Outcome Says ℕ) → Outcome Says ℕ → Type 0
One C x of = Allows C (λ k a. a.0 ≡ x) (λ k r t. of r)

-- The same for a function of two, called on x and y.
abbrev pub Two : {Says X Y R : Type 0} → (Unit {0} → X × (Y × Unit {0}) → R → X × (Y × Unit {0}) → Type 0)
    → X → Y → (R → Outcome Says ℕ) → Outcome Says ℕ → Type 0
Two C x y of = Allows C (λ k a. (a.0 ≡ x) × (a.1.0 ≡ y)) (λ k r t. of r)
