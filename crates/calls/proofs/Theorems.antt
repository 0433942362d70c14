-- Demand 3, of document 01's operations: the theorems on any family that is tied to functions. The one hypothesis is that starting words are below 2^64.
use mathlib.Core.Path.{◌≡◌}
use mathlib.Core.List.{List, [], map}
use Prim.Native.Nat.{ℕ, ◌<◌}
use Rattle.prime.specs.Modulus.{P}
use Rattle.prime.specs.Lists.{Each}
use Rattle.words.specs.Words.{Words}
use Rattle.sequence.specs.Outcomes.{Outcome, element, seen, shown}
use Rattle.sequence.specs.Ties.{Tied}
use Rattle.sequence.proofs.Theorems as family
use Rattle.calls.specs.Calls.{Call, Says}
use Rattle.calls.specs.WholeNumbers.{whole}
use Rattle.calls.specs.Operations.{operations, may, held_run, whole_run, Ran}
use Rattle.calls.proofs.Agreement.{respectful}
use Rattle.calls.proofs.Contracts.{held_only}
use Rattle.calls.proofs.Possible.{possible}

-- The contracts allow each call its held outcome, and no other.
pub operations_tied : Tied operations may
operations_tied = record { only = λ c s _. held_only c s; possible = λ c s _. possible c s }

-- The outcomes that the contracts of the functions allow for any calls are those of the held run, and no others.
pub as_held : (cs : List Call) (ws : List ℕ) (os : List (Outcome Says ℕ)) → Ran cs ws os → os ≡ held_run cs ws
as_held cs ws = family.as_held operations respectful operations_tied cs ws []

pub held_ran : (cs : List Call) (ws : List ℕ) → Words ws → Ran cs ws (held_run cs ws)
held_ran cs ws = family.held_ran operations respectful operations_tied cs ws []

module _ (cs : List Call) (ws : List ℕ) (h : Words ws) where
  -- What is seen of the held run is what is shown of the whole-number run.
  pub held_run_lem : map seen (held_run cs ws) ≡ map shown (whole_run cs (map element ws))
  held_run_lem = family.sequence operations respectful cs ws [] h

  -- What is seen of any calls that the functions answer is what is shown of the whole-number run.
  pub functions_run : (os : List (Outcome Says ℕ)) → Ran cs ws os → map seen os ≡ map shown (whole_run cs (map element ws))
  functions_run = family.functions_run operations respectful operations_tied cs ws [] h

  -- Run twice, from words that agree modulo P one by one, the functions are seen to answer alike.
  pub run_twice : (vs : List ℕ) → Words vs → map element ws ≡ map element vs
      → (os ps : List (Outcome Says ℕ)) → Ran cs ws os → Ran cs vs ps → map seen os ≡ map seen ps
  run_twice vs = family.run_twice operations respectful operations_tied cs ws vs [] h

-- The whole-number side stays below P: from numbers below P, each call leaves numbers below P.
pub whole_below : (c : Call) (e : ℕ → ℕ) → ((i : ℕ) → e i < P) → Each (λ (w : ℕ). w < P) (whole c e).words
whole_below c e = family.whole_below operations respectful c e e
