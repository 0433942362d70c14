-- A word is read from its part of a line; then the name decides.
use mathlib.Core.Path.{◌≡◌, refl, ap, ◌∙◌}
use mathlib.Core.Bool.{Bool, true, false, cond}
use mathlib.Core.List.{List, [], ◌∷◌, ◌++◌}
use Prim.Native.Nat.{ℕ, suc, ◌<◌}
use native.Mathlib.Omega.{arith}
use borrow.Author.Tests.{eq-eqb, ne_eqb, eqb-true, eqb-false}
use lib.Dec.{eqb}
use lib.ListN.{length, get_or, take, drop}
use lib.Seq.{take_all, take-take, drop-drop}
use Rattle.std.specs.Prelude.{Ok, Err, Option, Some, None, MatchOption}
use Rattle.std.specs.Option.{ok_or}
use Rattle.answers.specs.declared.refusals.Refusal.{Refusal}
use Rattle.answers.specs.declared.refusals.Refusal.TheVariants.{Unreadable}
use Rattle.text.specs.Names.{same}
use Rattle.text.specs.Digits.{hex, made, IsWord, IsColumn}
use Rattle.text.proofs.NameLaws.{same_append}
use Rattle.text.proofs.DigitLaws.{length_digits}
use Rattle.text.proofs.Reading.{read_is}
use Rattle.desk_line.specs.Replies.{spaced, word_at, of_two, of_one, two, one}
use Rattle.desk_line.specs.Promises.{read_word}

-- ---- reading a word: a space, and then its digits

no_space : (bytes : List ℕ) → 0 < length bytes → (get_or bytes 0 0 ≡ 32 → ⊥) → read_word bytes ≡ Err Unreadable
unfolding read_word same
no_space (b ∷ bytes) h n = rw (ne_eqb b 32 n) refl
no_space [] h n = absurd (omega arith)

spaced_digits : (bytes : List ℕ) (r : Option ℕ) → length bytes ≡ 17 → get_or bytes 0 0 ≡ 32
    → MatchOption r (¬ IsWord (drop 1 bytes)) (λ word. IsWord (drop 1 bytes) × (word ≡ made 16 0 (drop 1 bytes))) → read_word bytes ≡ ok_or r Unreadable
unfolding read_word same
spaced_digits [] r h e m = absurd (omega arith)
spaced_digits (b ∷ bytes) r h e m =
    let l : length bytes ≡ 16 = omega arith in
    let t : take 16 bytes ≡ bytes = take_all 16 bytes (omega arith) in
    rw (read_is bytes (omega arith) m, l, eq-eqb b 32 e, t) (answered (same bytes (hex 16 (made 16 0 bytes))) (made 16 0 bytes))
  where
    answered : (t : Bool) (w : ℕ) → cond t (Ok w) (Err Unreadable) ≡ ok_or (cond t (Some w) None) Unreadable
    answered true w = refl
    answered false w = refl

-- what a column is read as
pub column_read : (bytes : List ℕ) (r : Option ℕ) → length bytes ≡ 17
    → MatchOption r (¬ IsColumn bytes) (λ word. IsColumn bytes × (word ≡ made 16 0 (drop 1 bytes))) → read_word bytes ≡ ok_or r Unreadable
column_read [] r h m = absurd (omega arith)
column_read (b ∷ bytes) (Some word) h m = spaced_digits (b ∷ bytes) (Some word) h (cc m.0.0) (m.0.1, m.1)
column_read (b ∷ bytes) None h m = none (eqb b 32) refl
  where
    none : (t : Bool) → eqb b 32 ≡ t → read_word (b ∷ bytes) ≡ Err Unreadable
    none true e = let s : b ≡ 32 = eqb-true b 32 e in spaced_digits (b ∷ bytes) None h s (λ w. m (ap (λ (x : ℕ). x ∷ []) s, w))
    none false e = no_space (b ∷ bytes) (omega arith) (eqb-false b 32 e)

-- a word was read: it stands there
word_read : (bytes : List ℕ) (x : ℕ) → read_word bytes ≡ Ok x → (same bytes (spaced (word_at 0 bytes)) ≡ true) × (x ≡ word_at 0 bytes)
unfolding read_word
word_read bytes x e = told (same bytes (spaced (word_at 0 bytes))) e
  where
    told : (t : Bool) {w y : ℕ} → cond t (Ok w) (Err Unreadable) ≡ Ok y → (t ≡ true) × (y ≡ w)
    told true p = (refl, cc)
    told false p = (cc, cc)

-- a refusal: none does
none_read : (bytes : List ℕ) (k : Refusal) → read_word bytes ≡ Err k → (same bytes (spaced (word_at 0 bytes)) ≡ false) × (k ≡ Unreadable)
unfolding read_word
none_read bytes k e = told (same bytes (spaced (word_at 0 bytes))) (word_at 0 bytes) e
  where
    told : (t : Bool) (w : ℕ) {j : Refusal} → cond t (Ok w) (Err Unreadable) ≡ Err j → (t ≡ false) × (j ≡ Unreadable)
    told true w p = (cc, cc)
    told false w p = (refl, cc)

-- ---- one word

module _ (name rest : List ℕ) where
  pub one_none : (k : Refusal) → read_word rest ≡ Err k → one name rest (Err Unreadable) ≡ Err k
  unfolding one
  one_none k h = let a = none_read rest k h in rw (a.0, a.1) refl

  pub one_named : (x : ℕ) → read_word rest ≡ Ok x → one name rest (Err Unreadable) ≡ of_one name x
  unfolding one
  one_named x h = let a = word_read rest x h in rw (a.0, a.1) refl

-- what a word is used for
pub ruleset word = (one_none, one_named)

-- ---- two words

first_word : (rest : List ℕ) → word_at 0 (take 17 rest) ≡ word_at 0 rest
first_word [] = refl
first_word (b ∷ rest) = ap (made 16 0) (take-take 16 16 rest (omega arith))

-- the test of two words is that of each
both : (rest : List ℕ) → length rest ≡ 34
    → same rest (spaced (word_at 0 rest) ++ spaced (word_at 17 rest))
    ≡ cond (same (take 17 rest) (spaced (word_at 0 (take 17 rest)))) (same (drop 17 rest) (spaced (word_at 0 (drop 17 rest)))) false
both rest h =
    let x = word_at 0 rest in
    let y = word_at 17 rest in
    same_append rest (spaced x) (spaced y)
    ∙ ap (λ (n : ℕ). cond (same (take n rest) (spaced x)) (same (drop n rest) (spaced y)) false) (ap suc (length_digits 16 16 x))
    ∙ rw (first_word rest, drop-drop 1 17 rest) refl

neither : (t : Bool) → cond t false false ≡ false
neither true = refl
neither false = refl

second_word : (rest : List ℕ) → word_at 0 (drop 17 rest) ≡ word_at 17 rest
second_word rest = rw (drop-drop 1 17 rest) refl

module _ (name rest : List ℕ) (l : length rest ≡ 34) where
  pub first_none : (k : Refusal) → read_word (take 17 rest) ≡ Err k → two name rest (Err Unreadable) ≡ Err k
  unfolding two
  first_none k h = let a = none_read (take 17 rest) k h in rw (both rest l, a.0, a.1) refl

  pub second_none : (k : Refusal) → read_word (drop 17 rest) ≡ Err k → two name rest (Err Unreadable) ≡ Err k
  unfolding two
  second_none k h = let a = none_read (drop 17 rest) k h in rw (both rest l, a.0, a.1, neither (same (take 17 rest) (spaced (word_at 0 (take 17 rest))))) refl

  pub two_named : (x y : ℕ) → read_word (take 17 rest) ≡ Ok x → read_word (drop 17 rest) ≡ Ok y → two name rest (Err Unreadable) ≡ of_two name x y
  unfolding two
  two_named x y h i =
      let a = word_read (take 17 rest) x h in
      let b = word_read (drop 17 rest) y i in
      rw (both rest l, a.0, b.0, a.1, b.1, first_word rest, second_word rest) refl
