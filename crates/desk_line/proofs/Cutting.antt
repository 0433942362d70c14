-- A piece that is cut in two is answered as its parts, one after the other, and no byte of it is answered by more than 17.
use mathlib.Core.Path.{◌≡◌, refl}
use mathlib.Core.Bool.{cond}
use mathlib.Core.List.{List, [], ◌∷◌, ◌++◌, append_assoc}
use Prim.Native.Nat.{ℕ, ◌*◌, ◌≤◌}
use native.Mathlib.Omega.{arith}
use lib.Dec.{eqb}
use lib.ListN.{length, length-append}
use Rattle.prime.proofs.Choice.{by_eq}
use Rattle.answers.specs.Answers.{Answer}
use Rattle.std.specs.Prelude.{Ok, Err}
use Rattle.answers.specs.Answers.{number}
use Rattle.text.specs.Digits.{hex}
use Rattle.text.specs.Decimals.{decimal}
use Rattle.text.proofs.DigitLaws.{length_digits}
use Rattle.desk_line.specs.declared.desk.Desk.{Desk}
use Rattle.desk_line.specs.Replies.{answer_to, reply, text}
use Rattle.desk_line.specs.Pieces.{step, after, written}
use Rattle.desk_line.proofs.Numbers.{number_length}

pub after_append : (d : Desk) (a b : List ℕ) → after d (a ++ b) ≡ after (after d a) b
unfolding after
after_append d [] b = refl
after_append d (x ∷ a) b = after_append (step d x) a b

pub written_append : (d : Desk) (a b : List ℕ) → written d (a ++ b) ≡ written d a ++ written (after d a) b
unfolding written after
written_append d [] b = refl
written_append d (x ∷ a) b = rw (written_append (step d x) a b, append_assoc)

pub text_length : (a : Answer) → length (text a) ≤ 17
unfolding text
text_length (Ok w) = omega (arith, length-append (hex 16 w) (10 ∷ []), length_digits 16 16 w)
text_length (Err r) = omega (arith, length-append (decimal (number r)) (10 ∷ []), number_length r)

-- what a single byte is answered by
byte_length : (d : Desk) (b : ℕ) → length (cond (eqb b 10) (reply d) []) ≤ 17
byte_length d b = by_eq (λ (l : List ℕ). length l ≤ 17) b 10 (λ e. text_length (answer_to d)) (λ e. omega arith)

pub written_length : (d : Desk) (piece : List ℕ) → length (written d piece) ≤ 17 * length piece
unfolding written
written_length d [] = omega arith
written_length d (b ∷ piece) =
    omega (arith, length-append (cond (eqb b 10) (reply d) []) (written (step d b) piece), byte_length d b, written_length (step d b) piece)
