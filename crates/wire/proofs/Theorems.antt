-- Coding by its definitions, statement by statement.
use mathlib.Core.Path.{◌≡◌, sym, ap, ◌∙◌}
use mathlib.Core.Logic.{◌↔◌}
use mathlib.Core.List.{List, map}
use Prim.Native.Nat.{ℕ, ◌*◌, ◌%◌, ◌<◌, ◌≤◌}
use native.Mathlib.Nat.{le_of_eq}
use lib.ListN.{length}
use Rattle.prime.specs.Modulus.{P}
use Rattle.prime.specs.Lists.{Each}
use Rattle.wire.specs.Wire.{bytes_of, number_of, element_bytes, encoded, groups}
use Rattle.wire.specs.Refusals.{limit, reading}
use Rattle.wire.proofs.RoundTrip as trip

-- The groups of what was written are the canonical words, whatever their number.
pub groups_written : (ws : List ℕ) → groups (length ws) (encoded ws) ≡ map (λ (w : ℕ). w % P) ws
groups_written = trip.groups_encoded

-- Up to the limit, reading what was written is not refused and gives the canonical words.
pub reading_written : (ws : List ℕ) → length ws ≤ limit
    → (reading (length ws) (encoded ws) ≡ 0) × (groups (length ws) (encoded ws) ≡ map (λ (w : ℕ). w % P) ws)
reading_written ws h =
    (trip.reading_good (length ws) (encoded ws) h (trip.length_encoded ws) (le_of_eq (sym (trip.none_bad_encoded ws))), groups_written ws)

-- Two words have the same 8 bytes exactly if they agree modulo P.
pub same_bytes : (x y : ℕ) → (element_bytes x ≡ element_bytes y) ↔ (x % P ≡ y % P)
same_bytes x y = (λ e. sym (trip.number_of_element x) ∙ ap number_of e ∙ trip.number_of_element y, ap (bytes_of 8))

-- What is written is 8 entries for each word.
pub length_written : (ws : List ℕ) → length (encoded ws) ≡ 8 * length ws
length_written = trip.length_encoded

-- Each of them is a byte.
pub bytes_written : (ws : List ℕ) → Each (λ (b : ℕ). b < 256) (encoded ws)
bytes_written = trip.encoded_below

-- Bytes that are not refused are the only encoding of the words that they give.
pub written_read : (n : ℕ) (bs : List ℕ) → Each (λ (b : ℕ). b < 256) bs → reading n bs ≡ 0 → encoded (groups n bs) ≡ bs
written_read n bs b e = let a = trip.reading_accepted n bs e in trip.encoded_groups n bs b a.0 a.1
