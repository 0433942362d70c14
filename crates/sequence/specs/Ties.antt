-- Families tied to functions, where `may` tells the outcomes that the functions may give.
use Rattle.std.specs.Prelude.{◌≡◌, ◌⊎◌, ℕ, ◌^◌, ◌<◌}
use Rattle.std.proofs.Common.{inl, inr}
use Rattle.sequence.specs.Outcomes.{Outcome}
use Rattle.sequence.specs.Families.{May, Family, named}

-- A call may have no outcome but its held one, and from words below 2^64 it may have that one.
pub record Tied (F : Family) (may : May F.Call F.Says) : Type 0 where
  pub only : (c : F.Call) (s n : ℕ → ℕ) (o : Outcome F.Says ℕ) → may c s n o → o ≡ F.held c s n
  pub possible : (c : F.Call) (s n : ℕ → ℕ) → ((i : ℕ) → s i < 2 ^ 64) → may c s n (F.held c s n)

-- o is an outcome that may be, with what is said under another name.
abbrev pub Renamed : {A B : Type 0} → (A → B) → (Outcome A ℕ → Type 0) → Outcome B ℕ → Type 0
Renamed {A} f may o = (p : Outcome A ℕ) × may p × (o ≡ named f p)

-- A call of either family may have the outcomes that its own family allows it.
abbrev pub either_may : {A B X Y : Type 0} → May A X → May B Y → May (A ⊎ B) (X ⊎ Y)
either_may f g (inl a) s n = Renamed inl (f a s n)
either_may f g (inr b) s n = Renamed inr (g b s n)
