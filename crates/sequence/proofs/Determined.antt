-- Where a contract says what is seen by the arguments alone, no second fits.
use mathlib.Core.Path.{◌≡◌, sym, ◌∙◌}
use Rattle.sequence.specs.Determined.{Fixes}

module _ {K : Type 0} {A R S B : K → Type 0} {Tells : (k : K) → A k → R k → S k → Type 0} {see : (k : K) → R k → S k → B k} where
  pub fixed : {v : (k : K) → A k → B k} → ((k : K) (a : A k) (r : R k) (s : S k) → Tells k a r s → see k r s ≡ v k a) → Fixes see Tells
  fixed f k a r q s t h i = f k a r s h ∙ sym (f k a q t i)
