-- Groups of 8 bytes, one after the other, the first that is P or more, and the bytes of words: what one turn of each loop does.
use mathlib.Core.Path.{◌≡◌, refl, sym, ap, ◌∙◌}
use mathlib.Core.List.{List, [], ◌∷◌, ◌++◌, append_assoc, append-nil}
use Prim.Native.Nat.{ℕ, zero, suc, ◌+◌, ◌-◌, ◌*◌, ◌<◌, ◌≤◌}
use native.Mathlib.Omega.{arith}
use Rattle.std.proofs.lemmas.Bool.Decides.{nat_tests}
use borrow.Rule.Slice.PartMut.{put_mid}
use lib.ListN.{length, get_or, take, drop, set}
use lib.Seq.{drop-drop}
use Rattle.std.proofs.lemmas.List.{take_more_set}
use Rattle.std.proofs.lemmas.Slice.{take-put_mid}
use Rattle.prime.specs.Modulus.{P}
use Rattle.wire.specs.Wire.{number_of, element_bytes, encoded, groups, first_bad}
use Rattle.wire.proofs.Bytes.{length_bytes}

-- the part of the bytes that holds group i
abbrev pub part : ℕ → List ℕ → List ℕ
part i bs = take (8 * i + 8 - 8 * i) (drop (8 * i) bs)

-- the bytes from the next group on
drop_on : (i : ℕ) (bs : List ℕ) → drop (8 * i) (drop 8 bs) ≡ drop (8 * suc i) bs
drop_on i bs = grind (arith, drop-drop (8 * i) 8 bs)

next_part : (i : ℕ) (bs : List ℕ) → drop 8 (drop (8 * i) bs) ≡ drop (8 * (i + 1)) bs
next_part i bs = grind (arith, drop-drop 8 (8 * i) bs)

-- one group more, at the end
groups_more : (i : ℕ) (bs : List ℕ) → groups (suc i) bs ≡ groups i bs ++ number_of (take 8 (drop (8 * i) bs)) ∷ []
unfolding groups
groups_more zero bs = refl
groups_more (suc i) bs =
    ap (◌∷◌ (number_of (take 8 bs)))
    (groups_more i (drop 8 bs) ∙ ap (λ (l : List ℕ). groups i (drop 8 bs) ++ number_of (take 8 l) ∷ []) (drop_on i bs))

pub groups_turn : (i : ℕ) (bs ws : List ℕ) {r : ℕ} → take i ws ≡ groups i bs → i < length ws → r ≡ number_of (part i bs)
    → take (i + 1) (set ws i r) ≡ groups (i + 1) bs
groups_turn i bs ws {r} f h e = grind (arith, take_more_set ws i r h, groups_more i bs)

-- where the groups before i are good, the first bad one is found i groups on, in what is left
module _ (n i : ℕ) (bs : List ℕ) {r : ℕ} where
  groups_left : i < n → r ≡ number_of (part i bs) → groups (n - i) (drop (8 * i) bs) ≡ r ∷ groups (n - (i + 1)) (drop (8 * (i + 1)) bs)
  unfolding groups
  groups_left h e = let some : n - i ≡ suc (n - (i + 1)) = omega arith in rw some (grind (arith, next_part i bs))

  pub good_turn : i < n → r ≡ number_of (part i bs) → r < P
      → first_bad (groups (n - i) (drop (8 * i) bs)) ≡ suc (first_bad (groups (n - (i + 1)) (drop (8 * (i + 1)) bs)))
  unfolding first_bad
  good_turn h e g = grind (arith, nat_tests, groups_left h e)

  pub bad_found : i < n → r ≡ number_of (part i bs) → P ≤ r → first_bad (groups (n - i) (drop (8 * i) bs)) ≡ 0
  unfolding first_bad
  bad_found h e g = grind (arith, nat_tests, groups_left h e)

pub none_left : (n i : ℕ) (bs : List ℕ) → n ≤ i → first_bad (groups (n - i) bs) ≡ 0
unfolding first_bad groups
none_left n i bs h = grind arith

-- one word more, at the end
encoded_more : (i : ℕ) (ws : List ℕ) → i < length ws → encoded (take (suc i) ws) ≡ encoded (take i ws) ++ element_bytes (get_or ws i 0)
unfolding encoded
encoded_more i [] h = absurd (omega arith)
encoded_more zero (w ∷ ws) h = append-nil (element_bytes w)
encoded_more (suc i) (w ∷ ws) h =
    ap (◌++◌ (element_bytes w)) (encoded_more i ws (omega arith)) ∙ sym (append_assoc (element_bytes w) (encoded (take i ws)) _)

pub words_turn : (i : ℕ) (ws bs vs : List ℕ) → take (8 * i) bs ≡ encoded (take i ws) → i < length ws → length bs ≡ 8 * length ws
    → vs ≡ element_bytes (get_or ws i 0) → take (8 * (i + 1)) (put_mid (8 * i) (8 * i + 8 - 8 * i) bs vs) ≡ encoded (take (i + 1) ws)
words_turn i ws bs vs f h l e =
    let to : 8 * (i + 1) ≡ 8 * i + length vs = omega (arith, ap length e ∙ length_bytes 8 _) in
    grind (arith, take-put_mid (8 * i) (8 * i + 8 - 8 * i) bs vs (8 * (i + 1)) to (omega arith), encoded_more i ws h)
