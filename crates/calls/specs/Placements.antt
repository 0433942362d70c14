-- 01, "Placements worked by hand": W1 to W13, as one list.
use Rattle.std.specs.Prelude.{List, [], ◌∷◌, ℕ, ◌+◌, ◌-◌, ◌^◌, negsuc}
use Rattle.std.proofs.Common.{lit<}
use Rattle.prime.specs.Modulus.{P}
use Rattle.sequence.specs.Outcomes.{Outcome}
use Rattle.sequence.specs.Runs.{at}
use Rattle.calls.specs.Calls.{Call, add, sub, neg, mul, halve, dot, from_i64, shift_up, shift_down, square_root, Says, refusal, outcome, word}
use Rattle.calls.specs.Held.{held}

-- From these words, this call gives this outcome.
pub record Placement : Type 0 where
  pub words : List ℕ
  pub call : Call
  pub gives : Outcome Says ℕ

-- What the definitions give.
abbrev pub given : Placement → Outcome Says ℕ
given p = held p.call (at p.words)

-- A placement, on one line.
abbrev from : List ℕ → Call → Outcome Says ℕ → Placement
from ws c o = record { words = ws; call = c; gives = o }

-- The largest word.
abbrev top : ℕ
top = 2 ^ 64 - 1

-- W1 to W13, in document 01's order.
abbrev pub placements : List Placement
placements =
    from ((P - 1) ∷ 1 ∷ []) (add 0 1) (word P)  -- W1
    ∷ from (top ∷ []) (add 0 0) (word 0x1FFFFFFFC)  -- W2
    ∷ from (0 ∷ top ∷ []) (sub 0 1) (word 0xFFFFFFFE00000003)  -- W3
    ∷ from (0 ∷ []) (neg 0) (word P)  -- W4
    ∷ from (P ∷ []) (neg 0) (word P)  -- W4
    ∷ from ((P - 1) ∷ []) (mul 0 0) (word (P + 1))  -- W5
    ∷ from (2 ^ 32 ∷ []) (mul 0 0) (word 0xFFFFFFFF)  -- W6
    ∷ from (top ∷ []) (halve 0) (word 0xFFFFFFFF80000000)  -- W7
    ∷ from (1 ∷ []) (shift_down 0 32) (word 0xFFFFFFFE00000002)  -- W8
    ∷ from (1 ∷ []) (shift_down 0 2) (word 0xBFFFFFFF40000001)  -- W8
    ∷ from (0 ∷ []) (shift_up 0 96) (word P)  -- W9
    ∷ from (1 ∷ []) (shift_up 0 96) (word (P - 1))  -- W9
    ∷ from (top ∷ []) (dot (0 ∷ 0 ∷ []) (0 ∷ 0 ∷ [])) (word 0xFFFFFFF900000007)  -- W10
    ∷ from ((P - 1) ∷ []) (square_root 0) (word (2 ^ 48))  -- W11
    ∷ from (P ∷ []) (square_root 0) (word 0)  -- W11
    ∷ from (7 ∷ []) (square_root 0) (outcome (refusal 3) (0 ∷ []))  -- W12
    ∷ from [] (from_i64 (negsuc (2 ^ 63 - 1)) (record { sfits = lit< tt })) (word 0x7FFFFFFF00000001)  -- W13
    ∷ []
