-- What is written is read back, and bytes that are read with no group refused are those that would be written.
use mathlib.Core.Path.{◌≡◌, refl, ap, ap₂, ◌∙◌}
use mathlib.Core.Bool.{cond}
use mathlib.Core.List.{List, [], ◌∷◌, ◌++◌, map}
use Prim.Native.Nat.{ℕ, zero, suc, ◌*◌, ◌%◌, ◌<◌, ◌≤◌}
use native.Mathlib.Nat.{mod-eq_of_lt}
use native.Mathlib.Omega.{arith}
use Rattle.std.proofs.lemmas.Bool.Decides.{nat_tests}
use lib.Dec.{ltb}
use lib.ListN.{length, take, drop, length-append, length-drop, take-append-drop}
use lib.Seq.{length-take-le}
use Rattle.prime.specs.Modulus.{P}
use Rattle.wire.specs.Wire.{bytes_of, number_of, element_bytes, encoded, groups, first_bad}
use Rattle.wire.specs.Refusals.{limit, reading}
use Rattle.wire.proofs.Bytes.{Bytes, length_bytes, bytes_below, number_of_bytes, bytes_of_number, bytes_append, bytes_take, bytes_drop}

-- ---- from words to bytes and back

pub number_of_element : (x : ℕ) → number_of (element_bytes x) ≡ x % P
number_of_element x = number_of_bytes 8 (x % P) (omega arith)

pub length_encoded : (ws : List ℕ) → length (encoded ws) ≡ 8 * length ws
unfolding encoded
length_encoded [] = refl
length_encoded (w ∷ ws) = omega (arith, length-append (element_bytes w) (encoded ws), length_bytes 8 (w % P), length_encoded ws)

pub encoded_below : (ws : List ℕ) → Bytes (encoded ws)
unfolding encoded
encoded_below [] = tt
encoded_below (w ∷ ws) = bytes_append (element_bytes w) (encoded ws) (bytes_below 8 (w % P)) (encoded_below ws)

pub groups_encoded : (ws : List ℕ) → groups (length ws) (encoded ws) ≡ map (λ (w : ℕ). w % P) ws
unfolding encoded groups bytes_of
groups_encoded [] = refl
groups_encoded (w ∷ ws) = ap₂ ◌∷◌ (number_of_element w) (groups_encoded ws)

-- no remainder is bad
good_rests : (ws : List ℕ) → first_bad (map (λ (w : ℕ). w % P) ws) ≡ length ws
unfolding first_bad
good_rests [] = refl
good_rests (w ∷ ws) = grind (arith, nat_tests, good_rests ws)

pub none_bad_encoded : (ws : List ℕ) → first_bad (groups (length ws) (encoded ws)) ≡ length ws
none_bad_encoded ws = ap first_bad (groups_encoded ws) ∙ good_rests ws

-- ---- from bytes to words and back

-- where no group is bad, the first is below P and none after it is bad
first_good : (g n f : ℕ) → suc n ≤ cond (ltb g P) (suc f) 0 → (g < P) × (n ≤ f)
first_good g n f h = grind (arith, nat_tests)

pub encoded_groups : (n : ℕ) (bs : List ℕ) → Bytes bs → length bs ≡ 8 * n → n ≤ first_bad (groups n bs) → encoded (groups n bs) ≡ bs
unfolding encoded groups first_bad
encoded_groups zero [] b h f = refl
encoded_groups zero (x ∷ bs) b h f = absurd (omega arith)
encoded_groups (suc n) bs b h f =
    ap₂ ◌++◌ first (encoded_groups n (drop 8 bs) (bytes_drop 8 bs b) (rw (length-drop 8 bs) (omega arith)) good.1) ∙ take-append-drop 8 bs
  where
    good : (number_of (take 8 bs) < P) × (n ≤ first_bad (groups n (drop 8 bs)))
    good = first_good (number_of (take 8 bs)) n (first_bad (groups n (drop 8 bs))) f

    first : element_bytes (number_of (take 8 bs)) ≡ take 8 bs
    first =
        ap (bytes_of 8) (mod-eq_of_lt good.0)
        ∙ rw (length-take-le 8 bs (omega arith)) at (bytes_of_number (take 8 bs) (bytes_take 8 bs b))

-- ---- what is refused

pub reading_good : (n : ℕ) (bs : List ℕ) → n ≤ limit → length bs ≡ 8 * n → n ≤ first_bad (groups n bs) → reading n bs ≡ 0
reading_good n bs h e f = grind (arith, nat_tests)

-- nothing is refused only if the length fits and no group is bad
pub reading_accepted : (n : ℕ) (bs : List ℕ) → reading n bs ≡ 0 → (length bs ≡ 8 * n) × (n ≤ first_bad (groups n bs))
reading_accepted n bs e = grind (arith, nat_tests)
