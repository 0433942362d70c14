-- What the contract of a public operation must be. For lifetimes k and arguments a, `Asks k a` is what it asks of its caller, and `Tells k a r s` what it
-- tells of the answer r and of what the parameters hold at exit, s.
use Rattle.std.specs.Prelude.{◌≡◌}

-- Where two answers fit the contract with the same arguments, what `see` reads off them and off what they leave is the same.
abbrev pub Fixes : {K : Type 0} {A R S B : K → Type 0} → ((k : K) → R k → S k → B k) → ((k : K) → A k → R k → S k → Type 0) → Type 0
Fixes {K} {A} {R} {S} see Tells = (k : K) (a : A k) (r q : R k) (s t : S k) → Tells k a r s → Tells k a q t → see k r s ≡ see k q t

-- It asks nothing of its caller, and no second answer fits.
pub record Determined {K : Type 0} {A R S : K → Type 0} (Asks : (k : K) → A k → Type 0) (Tells : (k : K) → A k → R k → S k → Type 0) : Type 0 where
  pub free : (k : K) (a : A k) → Asks k a
  pub answer : Fixes (λ k r s. r) Tells
