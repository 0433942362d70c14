-- What a reader would ask of the desk tool's replies, in the words of 01: how an input may be cut, and which lines are answered by what.
use mathlib.Core.Path.{◌≡◌, refl, sym, ◌∙◌}
use mathlib.Core.Bool.{cond}
use mathlib.Core.List.{List, [], ◌++◌, flatten}
use Prim.Native.Nat.{ℕ, ◌%◌, ◌^◌, ◌<◌}
use native.Mathlib.Omega.{arith}
use lib.Dec.{eqb}
use lib.ListN.{length}
use Rattle.prime.specs.Modulus.{P}
use Rattle.std.specs.Prelude.{Ok, Err}
use Rattle.answers.specs.declared.refusals.Refusal.TheVariants.{InverseOfZero, NoSquareRoot, Unreadable}
use Rattle.words.specs.Words.{add_word, sub_word, mul_word, neg_word, halve_word}
use Rattle.roots.specs.Roots.{inverse_word, is_square, root_word}
use Rattle.text.specs.Names.{same}
use Rattle.text.proofs.DigitLaws.{length_digits}
use Rattle.desk_line.specs.Replies.{spaced, of_two, may_refuse, of_one, add, sub, mul, neg, half, inv, root, answer_to, replies_from, replies}
use Rattle.desk_line.specs.Grammar.{Line}
use Rattle.desk_line.specs.Pieces.{fresh, spoken}
use Rattle.desk_line.proofs.Shapes.{unreadable, unreadable_long, of_20, of_21, two_reads, one_reads, line_of_two, line_of_one}
use Rattle.desk_line.proofs.OpenLine.{keeps_fresh, spoken_kept}

-- The replies do not depend on how the input is cut into pieces: they are those to the whole.
pub any_cutting : (pieces : List (List ℕ)) → spoken fresh pieces ≡ replies (flatten pieces)
any_cutting pieces = spoken_kept fresh [] pieces keeps_fresh

-- Two cuttings of one input are answered alike.
pub cut_alike : (pieces others : List (List ℕ)) → flatten pieces ≡ flatten others → spoken fresh pieces ≡ spoken fresh others
cut_alike pieces others e = rw (any_cutting pieces, any_cutting others, e)

-- No input gives no output.
pub no_input : replies [] ≡ []
unfolding replies_from
no_input = refl

-- 01: "an empty line .. gives `refused 8`".
pub empty_line : answer_to [] ≡ Err Unreadable
empty_line = unreadable [] (λ e. omega arith) (λ e. omega arith) (λ e. omega arith)

-- 01: "more than 63 bytes before the line's end gives `refused 8`".
pub long_line : (line : List ℕ) → 63 < length line → answer_to line ≡ Err Unreadable
long_line line h = unreadable_long line h

module _ (x y : ℕ) (h : x < 2 ^ 64) (i : y < 2 ^ 64) where
  -- `add` answers the sum's word.
  pub add_line : answer_to (add ++ (spaced x ++ spaced y)) ≡ Ok (add_word x y)
  unfolding answer_to of_two same
  add_line = two_reads add _ x y h i

  -- `sub` answers the difference's.
  pub sub_line : answer_to (sub ++ (spaced x ++ spaced y)) ≡ Ok (sub_word x y)
  unfolding answer_to of_two same
  sub_line = two_reads sub _ x y h i

  -- `mul` answers the product's.
  pub mul_line : answer_to (mul ++ (spaced x ++ spaced y)) ≡ Ok (mul_word x y)
  unfolding answer_to of_two same
  mul_line = two_reads mul _ x y h i

module _ (x : ℕ) (h : x < 2 ^ 64) where
  -- `neg` answers the word of the negative.
  pub neg_line : answer_to (neg ++ spaced x) ≡ Ok (neg_word x)
  unfolding of_one same
  neg_line = sym (of_20 (neg ++ spaced x) (omega (arith, length_digits 16 16 x))) ∙ one_reads neg _ x h

  -- `half` answers that of the half.
  pub half_line : answer_to (half ++ spaced x) ≡ Ok (halve_word x)
  unfolding of_one same
  half_line = sym (of_21 (half ++ spaced x) (omega (arith, length_digits 16 16 x))) ∙ one_reads half _ x h

  -- `inv` answers that of the inverse, and zero has none.
  pub inv_line : answer_to (inv ++ spaced x) ≡ cond (eqb (x % P) 0) (Err InverseOfZero) (Ok (inverse_word x))
  unfolding of_one may_refuse same
  inv_line = sym (of_20 (inv ++ spaced x) (omega (arith, length_digits 16 16 x))) ∙ one_reads inv _ x h

  -- `root` answers that of the root, where there is one.
  pub root_line : answer_to (root ++ spaced x) ≡ cond (is_square x) (Ok (root_word x)) (Err NoSquareRoot)
  unfolding of_one may_refuse same
  root_line = sym (of_21 (root ++ spaced x) (omega (arith, length_digits 16 16 x))) ∙ one_reads root _ x h

-- 01: "Anything else .. gives `refused 8`": a line that is answered otherwise is one of the seven.
pub readable : {line : List ℕ} → (answer_to line ≡ Err Unreadable → ⊥) → Line line
unfolding answer_to
readable {line} = line_of_two 3 line (line_of_one 3 line (line_of_one 4 line (λ h. absurd (h refl))))
