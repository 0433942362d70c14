-- Sequences of calls.
use Rattle.std.specs.Prelude.{List, [], ◌∷◌, ◌++◌, ℕ, get_or}
use Rattle.sequence.specs.Outcomes.{Outcome}
use Rattle.sequence.specs.Families.{Step, May}

-- What stands at a place, 0 where nothing does.
abbrev pub at : List ℕ → ℕ → ℕ
at xs i = get_or xs i 0

-- The outcomes of the calls in turn, from starting words and numbers: what a call leaves takes the next places, for the calls after it.
abbrev pub run : {Call Says : Type 0} → Step Call Says → List Call → List ℕ → List ℕ → List (Outcome Says ℕ)
run step [] ws ns = []
run step (c ∷ cs) ws ns =
    step c (at ws) (at ns) ∷ run step cs (ws ++ (step c (at ws) (at ns)).words) (ns ++ (step c (at ws) (at ns)).numbers)

-- os may be the outcomes of the calls in turn.
abbrev pub Plays : {Call Says : Type 0} → May Call Says → List Call → List ℕ → List ℕ → List (Outcome Says ℕ) → Type 0
Plays may [] ws ns [] = Unit {0}
Plays may [] ws ns (o ∷ os) = ⊥
Plays may (c ∷ cs) ws ns [] = ⊥
Plays may (c ∷ cs) ws ns (o ∷ os) = may c (at ws) (at ns) o × Plays may cs (ws ++ o.words) (ns ++ o.numbers) os
