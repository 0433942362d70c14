-- Digits that are read: the word that they make is below a power of 16, and its digits are they.
use mathlib.Core.Path.{◌≡◌, refl, sym, ap, ◌∙◌}
use mathlib.Core.Bool.{cond}
use mathlib.Core.List.{List, [], ◌∷◌, ◌++◌, append-nil, append_assoc}
use Prim.Native.Nat.{ℕ, suc, ◌+◌, ◌*◌, ◌/◌, ◌%◌, ◌^◌, ◌<◌, ◌≤◌}
use native.Mathlib.Nat.{add-zero, zero-add, lt_of_lt_of_le, mul-le-mul_right, pow-suc, pow-le-pow_right}
use native.Mathlib.Numerals.{add-one}
use native.Mathlib.Omega.{arith}
use lib.ListN.{length, get_or, take}
use lib.Seq.{take-suc, length-take-le}
use Rattle.std.proofs.lemmas.List.{get_or_default}
use Rattle.std.proofs.lemmas.List.Elements.{All-nil, All-head, All-tail, All-more}
use Rattle.std.specs.Prelude.{All, Option, Some, None, MatchOption}
use Rattle.text.specs.Names.{same}
use Rattle.text.specs.Digits.{digit, digits, hex, made, IsWord}
use Rattle.text.proofs.NameLaws.{same_refl, same_not}
use Rattle.text.proofs.DigitLaws.{glyph_digit, digits_below, made_append}

-- each byte writes a digit
abbrev pub AreDigits : List ℕ → Type 0
AreDigits bytes = All (λ b. digit b < 16) bytes

-- the first i bytes write digits, which make the word
pub record Read (i word : ℕ) (bytes : List ℕ) : Type 0 where
  pub are_digits : AreDigits (take i bytes)
  pub makes : word ≡ made 16 0 (take i bytes)

pub read_none : (bytes : List ℕ) → Read 0 0 bytes
unfolding made
read_none bytes = record { are_digits = All-nil (λ b. digit b < 16); makes = refl }

pub read_next : (i word d : ℕ) (bytes : List ℕ) → i < length bytes → d ≡ digit (get_or bytes i 0) → d < 16 → Read i word bytes
    → Read (i + 1) (word * 16 + d) bytes
unfolding made
read_next i word d bytes l e h r = record {
  are_digits = All-more (λ b. digit b < 16) bytes i 0 l r.are_digits (omega arith);
  makes = rw (add-one i, take-suc bytes i 0 l, made_append, e) (rw (← r.makes) refl);
}

more_room : (n d p q : ℕ) → d < 16 → q ≡ p * 16 → (n * 16 + d + 1) * p ≤ (n + 1) * q
more_room n d p q h e =
    let m : (n * 16 + d + 1) * p ≤ ((n + 1) * 16) * p = mul-le-mul_right p (omega arith) in
    rw e (grind arith)

-- digits behind the word n
made_below_from : (n : ℕ) (bytes : List ℕ) → AreDigits bytes → made 16 n bytes < (n + 1) * 16 ^ length bytes
unfolding made
made_below_from n [] h = omega arith
made_below_from n (b ∷ bytes) h =
    let d : digit b < 16 = All-head (λ b. digit b < 16) b bytes h in
    let q = made_below_from (n * 16 + digit b) bytes (All-tail (λ b. digit b < 16) b bytes h) in
    lt_of_lt_of_le q (more_room n (digit b) (16 ^ length bytes) (16 ^ suc (length bytes)) d (pow-suc 16 (length bytes)))

-- n digits make a word below 16^n
pub made_below : (bytes : List ℕ) → AreDigits bytes → made 16 0 bytes < 16 ^ length bytes
made_below bytes h = omega (arith, made_below_from 0 bytes h)

-- there is room for one digit more
pub read_room : (i word d : ℕ) (bytes : List ℕ) → i < length bytes → length bytes ≤ 16 → d < 16 → Read i word bytes → word * 16 + d < 2 ^ 64
read_room i word d bytes h k l r =
    let t : length (take i bytes) ≡ i = length-take-le i bytes (omega arith) in
    let m = made_below (take i bytes) r.are_digits in
    omega (arith, r.makes, rw t at m, pow-le-pow_right {n = 16} (omega arith) {i = i} {j = 15} (omega arith))

-- ---- the digits of the word that digits make are they

hex_digit : (k n b : ℕ) → digit b < 16 → hex (suc k) (n * 16 + digit b) ≡ hex k n ++ (b ∷ [])
unfolding digits
hex_digit k n b h =
    let q : (n * 16 + digit b) / 16 ≡ n = omega arith in
    let r : (n * 16 + digit b) % 16 ≡ digit b = omega arith in
    rw (q, r, ← glyph_digit b h) refl

hex_from : (k n : ℕ) (bytes : List ℕ) → AreDigits bytes → hex (length bytes + k) (made 16 n bytes) ≡ hex k n ++ bytes
unfolding made
hex_from k n [] h = rw (zero-add k, append-nil) refl
hex_from k n (b ∷ bytes) h =
    let e : suc (length bytes) + k ≡ length bytes + suc k = omega arith in
    ap (λ (m : ℕ). hex m (made 16 (n * 16 + digit b) bytes)) e
    ∙ hex_from (suc k) (n * 16 + digit b) bytes (All-tail (λ b. digit b < 16) b bytes h)
    ∙ ap (λ (l : List ℕ). l ++ bytes) (hex_digit k n b (All-head (λ b. digit b < 16) b bytes h))
    ∙ append_assoc (hex k n) (b ∷ []) bytes

pub hex_made : (bytes : List ℕ) → AreDigits bytes → hex (length bytes) (made 16 0 bytes) ≡ bytes
unfolding digits
hex_made bytes h = rw add-zero at (hex_from 0 0 bytes h)

pub digits_of_hex : (n : ℕ) (bytes : List ℕ) → hex (length bytes) n ≡ bytes → AreDigits bytes
digits_of_hex n bytes e i d h =
    let g : get_or bytes i d ≡ get_or bytes i 0 = get_or_default bytes i d 0 h in
    rw (g, ← e) (digits_below 16 (omega arith) (omega arith) (length bytes) n i h)

-- So a word is read exactly where its digits, written again, are the same.
pub read_is : (bytes : List ℕ) {r : Option ℕ} → length bytes ≤ 16
    → MatchOption r (¬ IsWord bytes) (λ word. IsWord bytes × (word ≡ made 16 0 bytes))
    → r ≡ cond (same bytes (hex (length bytes) (made 16 0 bytes))) (Some (made 16 0 bytes)) None
read_is bytes {r = Some word} l m = rw (hex_made bytes m.0.1, same_refl bytes, m.1) refl
read_is bytes {r = None} l m =
    let other = λ (e : bytes ≡ hex (length bytes) (made 16 0 bytes)). m (l, digits_of_hex (made 16 0 bytes) bytes (sym e)) in
    rw (same_not _ _ other) refl
