-- What a call gives, and what is seen of it.
use Rattle.std.specs.Prelude.{List, map, ℕ, ◌%◌}
use Rattle.prime.specs.Modulus.{P}
use Rattle.wire.specs.Wire.{bytes_of, element_bytes}

-- What the call says, the words that it leaves to later calls, and the numbers that it leaves to them and that are no elements.
pub record Outcome (Says Word : Type 0) : Type 0 where
  pub says : Says
  pub words : List Word
  pub numbers : List ℕ

-- The outcome with f done to each word.
abbrev pub each : {Says A B : Type 0} → (A → B) → Outcome Says A → Outcome Says B
each f o = record { says = o.says; words = map f o.words; numbers = o.numbers }

-- The element that a word stands for.
abbrev pub element : ℕ → ℕ
element w = w % P

-- The outcome in elements.
abbrev pub elements : {Says : Type 0} → Outcome Says ℕ → Outcome Says ℕ
elements = each element

-- What is seen of an outcome in held words: each word by its encoding.
abbrev pub seen : {Says : Type 0} → Outcome Says ℕ → Outcome Says (List ℕ)
seen = each element_bytes

-- What is seen of an outcome in whole numbers: each number by its 8 bytes.
abbrev pub shown : {Says : Type 0} → Outcome Says ℕ → Outcome Says (List ℕ)
shown = each (bytes_of 8)
