-- Bytes and the number that they make, the low byte first: each is got from the other.
use mathlib.Core.Path.{◌≡◌, refl, sym, ap, ap₂, ◌∙◌}
use mathlib.Core.List.{List, [], ◌∷◌, ◌++◌}
use Prim.Native.Nat.{ℕ, zero, suc, ◌+◌, ◌*◌, ◌/◌, ◌%◌, ◌^◌, ◌<◌}
use native.Mathlib.Omega.{arith}
use Rattle.std.proofs.Math.Nat.{pow-suc, div-div-eq-div-mul}
use lib.ListN.{length, get_or, take, drop, drop_of_length-le}
use lib.Seq.{drop-cons}
use Rattle.prime.specs.Lists.{Each}
use Rattle.std.specs.Int.{w64, byte_at, bytes_low_first, to_le_bytes}
use Rattle.words.specs.Words.{canonical}
use Rattle.words.proofs.Laws.{canonical_is}
use Rattle.wire.specs.Wire.{bytes_of, number_of, element_bytes}

-- the number of the k bytes from the i-th on, read by their places
abbrev pub number_from : ℕ → ℕ → List ℕ → ℕ
number_from zero i bs = 0
number_from (suc k) i bs = get_or bs i 0 + 256 * number_from k (suc i) bs

number_from_lem : (k i : ℕ) (bs : List ℕ) → length bs ≡ k + i → number_from k i bs ≡ number_of (drop i bs)
unfolding number_of
number_from_lem zero i bs h = ap number_of (sym (drop_of_length-le bs {i = i} (omega arith)))
number_from_lem (suc k) i bs h =
    ap (λ (n : ℕ). get_or bs i 0 + 256 * n) (number_from_lem k (suc i) bs (omega arith)) ∙ ap number_of (sym (drop-cons bs i 0 (omega arith)))

pub number_read : (k : ℕ) (bs : List ℕ) {r : ℕ} → length bs ≡ k → r ≡ number_from k 0 bs → r ≡ number_of bs
number_read k bs h e = e ∙ number_from_lem k 0 bs (omega arith)

-- the library's bytes of a number, from the i-th on
low_first : (k i n : ℕ) → bytes_low_first i k n ≡ bytes_of k (n / 256 ^ i)
unfolding bytes_of
low_first zero i n = refl
low_first (suc k) i n = ap₂ ◌∷◌ (byte i) (low_first k (suc i) n ∙ ap (bytes_of k) rest)
  where
    byte : (j : ℕ) → byte_at j n ≡ n / 256 ^ j % 256
    byte zero = omega arith
    byte (suc j) = refl

    rest : n / 256 ^ suc i ≡ n / 256 ^ i / 256
    rest = rw (pow-suc 256 i) (sym (div-div-eq-div-mul n (256 ^ i) 256))

pub element_written : {bs : List ℕ} {c x : ℕ} → bs ≡ to_le_bytes w64 c → c ≡ canonical x → x < 2 ^ 64 → bs ≡ element_bytes x
element_written {c = c} {x = x} e f h = e ∙ low_first 8 0 c ∙ ap (bytes_of 8) (omega (arith, canonical_is x h))

pub length_bytes : (k n : ℕ) → length (bytes_of k n) ≡ k
unfolding bytes_of
length_bytes zero n = refl
length_bytes (suc k) n = ap suc (length_bytes k (n / 256))

-- each is below 256
abbrev pub Bytes : List ℕ → Type 0
Bytes bs = Each (λ (b : ℕ). b < 256) bs

pub bytes_below : (k n : ℕ) → Bytes (bytes_of k n)
unfolding bytes_of
bytes_below zero n = tt
bytes_below (suc k) n = (omega arith, bytes_below k (n / 256))

pub number_of_bytes : (k n : ℕ) → n < 256 ^ k → number_of (bytes_of k n) ≡ n
unfolding bytes_of number_of
number_of_bytes zero n h = omega arith
number_of_bytes (suc k) n h = omega (arith, number_of_bytes k (n / 256) (omega arith))

pub bytes_of_number : (bs : List ℕ) → Bytes bs → bytes_of (length bs) (number_of bs) ≡ bs
unfolding bytes_of number_of
bytes_of_number [] h = refl
bytes_of_number (b ∷ bs) h = ap₂ ◌∷◌ (omega arith) (ap (bytes_of (length bs)) (omega arith) ∙ bytes_of_number bs h.1)

-- lists of bytes, joined and taken apart
pub bytes_append : (bs cs : List ℕ) → Bytes bs → Bytes cs → Bytes (bs ++ cs)
bytes_append [] cs h k = k
bytes_append (b ∷ bs) cs h k = (h.0, bytes_append bs cs h.1 k)

pub bytes_take : (k : ℕ) (bs : List ℕ) → Bytes bs → Bytes (take k bs)
bytes_take zero bs h = tt
bytes_take (suc k) [] h = tt
bytes_take (suc k) (b ∷ bs) h = (h.0, bytes_take k bs h.1)

pub bytes_drop : (k : ℕ) (bs : List ℕ) → Bytes bs → Bytes (drop k bs)
bytes_drop zero bs h = h
bytes_drop (suc k) [] h = tt
bytes_drop (suc k) (b ∷ bs) h = bytes_drop k bs h.1
