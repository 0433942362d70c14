-- A store of words holds a word at each place, and the store of their elements that word's element.
use mathlib.Core.Path.{◌≡◌, fun_ext}
use mathlib.Core.List.{List, [], ◌∷◌, ◌++◌, map}
use Prim.Native.Nat.{ℕ, zero, suc, ◌^◌, ◌<◌}
use lib.Dec.{lit<}
use lib.ListN.{get_or-map}
use Rattle.words.specs.Words.{Words}
use Rattle.sequence.specs.Outcomes.{element}
use Rattle.sequence.specs.Runs.{at}

pub words_append : (ws vs : List ℕ) → Words ws → Words vs → Words (ws ++ vs)
words_append [] vs h k = k
words_append (w ∷ ws) vs h k = (h.0, words_append ws vs h.1 k)

pub word_at : (ws : List ℕ) → Words ws → (i : ℕ) → at ws i < 2 ^ 64
word_at [] h i = lit< tt
word_at (w ∷ ws) h zero = h.0
word_at (w ∷ ws) h (suc i) = word_at ws h.1 i

pub element_at : (ws : List ℕ) → at (map element ws) ≡ (λ i. element (at ws i))
element_at ws = fun_ext (λ i. get_or-map element ws i 0)

-- the words at the places of a list
pub words_at : (s : ℕ → ℕ) → ((i : ℕ) → s i < 2 ^ 64) → (is : List ℕ) → Words (map s is)
words_at s h [] = tt
words_at s h (i ∷ is) = (h i, words_at s h is)
