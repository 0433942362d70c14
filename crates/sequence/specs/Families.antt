-- Families of calls.
use Rattle.std.specs.Prelude.{◌≡◌, ◌⊎◌, ℕ, ◌^◌, ◌<◌}
use Rattle.std.proofs.Common.{inl, inr}
use Rattle.words.specs.Words.{Words}
use Rattle.sequence.specs.Outcomes.{Outcome, element, elements}

-- How calls are answered, from the words and the numbers at each place.
abbrev pub Step : Type 0 → Type 0 → Type 0
Step Call Says = Call → (ℕ → ℕ) → (ℕ → ℕ) → Outcome Says ℕ

-- Which outcomes calls may have, from the words and the numbers at each place.
abbrev pub May : Type 0 → Type 0 → Type 1
May Call Says = Call → (ℕ → ℕ) → (ℕ → ℕ) → Outcome Says ℕ → Type 0

-- Calls, what they say, how they are answered in held words, and how in whole numbers.
pub record Family : Type 1 where
  pub Call : Type 0
  pub Says : Type 0
  pub held : Step Call Says
  pub whole : Step Call Says

-- The outcome h is in words, and in elements it is w.
pub record Agrees {Says : Type 0} (h w : Outcome Says ℕ) : Type 0 where
  pub below : Words h.words
  pub same : elements h ≡ w

-- From any words, each call's held answer is in elements what the whole-number answer is from the elements of those words.
abbrev pub Respectful : Family → Type 0
Respectful F = (c : F.Call) (s n : ℕ → ℕ) → ((i : ℕ) → s i < 2 ^ 64) → Agrees (F.held c s n) (F.whole c (λ i. element (s i)) n)

-- The outcome with what is said under another name.
abbrev pub named : {A B : Type 0} → (A → B) → Outcome A ℕ → Outcome B ℕ
named f o = record { says = f o.says; words = o.words; numbers = o.numbers }

-- A call of either family.
abbrev pub either : {A B X Y : Type 0} → Step A X → Step B Y → Step (A ⊎ B) (X ⊎ Y)
either f g (inl a) s n = named inl (f a s n)
either f g (inr b) s n = named inr (g b s n)

-- Two families joined: calls of either, on one store.
abbrev pub both : Family → Family → Family
both F G = record {
  Call = F.Call ⊎ G.Call;
  Says = F.Says ⊎ G.Says;
  held = either F.held G.held;
  whole = either F.whole G.whole;
}
