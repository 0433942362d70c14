-- Document 01's operations as a family of calls, and their runs.
use Rattle.std.specs.Prelude.{List, [], ℕ}
use Rattle.sequence.specs.Outcomes.{Outcome}
use Rattle.sequence.specs.Families.{Family, May}
use Rattle.sequence.specs.Runs.{run, Plays}
use Rattle.calls.specs.Calls.{Call, Says}
use Rattle.calls.specs.Held.{held}
use Rattle.calls.specs.WholeNumbers.{whole}
use Rattle.calls.specs.Allowed.{Allowed}

-- None of them reads a number that is no element.
abbrev pub operations : Family
operations = record { Call = Call; Says = Says; held = λ c s _. held c s; whole = λ c e _. whole c e }

-- Each may have the outcomes that the contract of its function allows.
abbrev pub may : May Call Says
may c s _ = Allowed c s

-- The run in held words, from starting words.
abbrev pub held_run : List Call → List ℕ → List (Outcome Says ℕ)
held_run cs ws = run operations.held cs ws []

-- The run in whole numbers, from starting numbers.
abbrev pub whole_run : List Call → List ℕ → List (Outcome Says ℕ)
whole_run cs es = run operations.whole cs es []

-- os are outcomes of the calls in turn, each allowed by the contract of its function.
abbrev pub Ran : List Call → List ℕ → List (Outcome Says ℕ) → Type 0
Ran cs ws os = Plays may cs ws [] os
