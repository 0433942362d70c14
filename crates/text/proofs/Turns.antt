-- The loop that writes the digits of a word.
use mathlib.Core.Path.{◌≡◌, refl, sym, ap, ap₂, ◌∙◌}
use mathlib.Core.List.{List, [], ◌∷◌, ◌++◌, append_assoc}
use Prim.Native.Nat.{ℕ, zero, suc, ◌-◌, ◌/◌, ◌%◌, ◌≤◌, ◌<◌}
use native.Mathlib.Omega.{arith}
use lib.ListN.{length, drop, set, length-set}
use lib.Seq.{drop-cons, drop-set-lt, get_or-set_same}
use Rattle.text.specs.Digits.{glyph, hex, digits}

-- one turn: the digits still to be written, and those that stand behind them, stay the same together
pub put_next : (i rest : ℕ) (text : List ℕ) → 0 < i → i ≤ length text
    → hex (i - 1) (rest / 16) ++ drop (i - 1) (set text (i - 1) (glyph (rest % 16))) ≡ hex i rest ++ drop i text
unfolding digits
put_next zero rest text p l = absurd (omega arith)
put_next (suc i) rest text p l =
    let front = hex i (rest / 16) in
    let g = glyph (rest % 16) in
    let n : suc i - 1 ≡ i = omega arith in
    rw n (ap (λ (m : List ℕ). front ++ m) (drop-cons (set text i g) i 0 (omega (arith, length-set text i g)))
    ∙ ap₂ (λ (d : ℕ) (m : List ℕ). front ++ (d ∷ m)) (get_or-set_same text i g 0 (omega arith)) (drop-set-lt (suc i) text i g (omega arith))
    ∙ sym (append_assoc front (g ∷ []) (drop (suc i) text)))

-- the end: none is left
pub put_all : (i rest : ℕ) (text : List ℕ) → i ≤ 0 → hex i rest ++ drop i text ≡ text
unfolding digits
put_all zero rest text l = refl
put_all (suc i) rest text l = absurd (omega arith)

pub ruleset putting = (put_next, put_all, length-set)
