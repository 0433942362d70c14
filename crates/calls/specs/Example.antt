-- A sequence of calls, written out.
use Rattle.std.specs.Prelude.{true, List, [], ◌∷◌, ◌++◌, ℕ, ◌+◌, ◌-◌, replicate}
use Rattle.prime.specs.Modulus.{P}
use Rattle.sequence.specs.Outcomes.{Outcome}
use Rattle.calls.specs.Calls.{Call, neg, mul, inverse, equal, slot, encode, Says, refusal, figure, truth, buffer, outcome, word, said}

-- Zero, and -1.
abbrev pub start : List ℕ
start = 0 ∷ (P - 1) ∷ []

-- The first three leave words at the places 2, 3 and 4.
abbrev pub calls : List Call
calls = neg 0 ∷ mul 1 1 ∷ inverse 2 ∷ equal 0 2 ∷ slot 3 8 ∷ encode (2 ∷ 3 ∷ 4 ∷ []) (replicate 24 0xAA) ∷ encode (2 ∷ []) (0xAA ∷ []) ∷ []

-- The 8 bytes of a number below 256.
abbrev bytes : ℕ → List ℕ
bytes b = b ∷ replicate 7 0

-- P, P + 1 for a one, and a refusal that leaves 0.
abbrev pub outcomes : List (Outcome Says ℕ)
outcomes =
    word P
    ∷ word (P + 1)
    ∷ outcome (refusal 2) (0 ∷ [])
    ∷ said (truth true)
    ∷ outcome (figure 0 1) (1 ∷ [])
    ∷ said (buffer 0 0 (bytes 0 ++ (bytes 1 ++ bytes 0)))
    ∷ said (buffer 6 0 (0xAA ∷ []))
    ∷ []

-- What is seen of the words that are left: the bytes of 0, 1, 0 and 1.
abbrev pub sights : List (List (List ℕ))
sights = (bytes 0 ∷ []) ∷ (bytes 1 ∷ []) ∷ (bytes 0 ∷ []) ∷ [] ∷ (bytes 1 ∷ []) ∷ [] ∷ [] ∷ []
