-- The test of two lists: it passes exactly if they are equal, which takes lists of one length, and it may be made part by part. It is std's `==`.
use mathlib.Core.Path.{◌≡◌, refl, ap, ap₂, ◌∙◌}
use mathlib.Core.Bool.{Bool, true, false, cond, ◌&&◌}
use mathlib.Core.List.{List, [], ◌∷◌, ◌++◌}
use Prim.Native.Nat.{ℕ, suc}
use native.Mathlib.Omega.{arith}
use borrow.Author.Tests.{eq-eqb, ne_eqb, eqb-true}
use lib.Dec.{eqb}
use lib.ListN.{length, get_or, take, drop}
use Rattle.std.proofs.lemmas.Bool.Decides.{nat_tests}
use Rattle.std.specs.Str.{bytes_eq}
use Rattle.text.specs.Names.{same}

pub same_refl : (l : List ℕ) → same l l ≡ true
unfolding same
same_refl [] = refl
same_refl (x ∷ l) = rw (eq-eqb x x refl) (same_refl l)

both_true : (t u : Bool) → cond t u false ≡ true → (t ≡ true) × (u ≡ true)
both_true true u e = (refl, e)
both_true false u e = (e, cc)

pub same_true : (l m : List ℕ) → same l m ≡ true → l ≡ m
unfolding same
same_true [] [] e = refl
same_true [] (y ∷ m) e = cc
same_true (x ∷ l) [] e = cc
same_true (x ∷ l) (y ∷ m) e =
    let b = both_true (eqb x y) (same l m) e in
    ap₂ ◌∷◌ (eqb-true x y b.0) (same_true l m b.1)

pub same_not : (l m : List ℕ) → (l ≡ m → ⊥) → same l m ≡ false
same_not l m h = refuted (same l m) (λ t. h (same_true l m t))
  where
    refuted : (t : Bool) → (t ≡ true → ⊥) → t ≡ false
    refuted true n = absurd (n refl)
    refuted false n = refl

-- what `==` on slices ensures
pub same_eq : (l m : List ℕ) → bytes_eq l m ≡ same l m
unfolding same
same_eq [] [] = refl
same_eq [] (y ∷ m) = refl
same_eq (x ∷ l) [] = refl
same_eq (x ∷ l) (y ∷ m) = and_cond (eqb x y) (bytes_eq l m) ∙ ap (λ (t : Bool). cond (eqb x y) t false) (same_eq l m)
  where
    and_cond : (t u : Bool) → (t && u) ≡ cond t u false
    and_cond true u = refl
    and_cond false u = refl

both_false : (t : Bool) {u : Bool} → u ≡ false → cond t u false ≡ false
both_false true e = e
both_false false e = refl

pub same_length : (l m : List ℕ) → (length l ≡ length m → ⊥) → same l m ≡ false
unfolding same
same_length [] [] h = absurd (h refl)
same_length [] (y ∷ m) h = refl
same_length (x ∷ l) [] h = refl
same_length (x ∷ l) (y ∷ m) h = both_false (eqb x y) (same_length l m (λ e. h (ap suc e)))

both_assoc : (t u v : Bool) → cond t (cond u v false) false ≡ cond (cond t u false) v false
both_assoc true u v = refl
both_assoc false u v = refl

pub same_append : (l p q : List ℕ) → same l (p ++ q) ≡ cond (same (take (length p) l) p) (same (drop (length p) l) q) false
unfolding same
same_append l [] q = refl
same_append [] (y ∷ p) q = refl
same_append (x ∷ l) (y ∷ p) q = rw (same_append l p q) (both_assoc (eqb x y) (same (take (length p) l) p) (same (drop (length p) l) q))

-- ---- a test byte by byte, as a match with the bytes of a name makes it

-- the bytes of m stand in l, from the place i on
abbrev pub bytes_at : List ℕ → ℕ → List ℕ → Bool
bytes_at l i [] = true
bytes_at l i (y ∷ m) = eqb (get_or l i 0) y && bytes_at l (suc i) m

bytes_behind : (x : ℕ) (l : List ℕ) (i : ℕ) (m : List ℕ) → bytes_at (x ∷ l) (suc i) m ≡ bytes_at l i m
bytes_behind x l i [] = refl
bytes_behind x l i (y ∷ m) = ap (λ (t : Bool). eqb (get_or l i 0) y && t) (bytes_behind x l (suc i) m)

and_later : (t u v : Bool) → cond t (u && v) false ≡ (u && (t && v))
and_later true u v = refl
and_later false true v = refl
and_later false false v = refl

eqb_suc : (a b : ℕ) → eqb a b ≡ eqb (suc a) (suc b)
eqb_suc a b = grind (arith, nat_tests)

pub same_bytes : (l m : List ℕ) → same l m ≡ (eqb (length l) (length m) && bytes_at l 0 m)
unfolding same
same_bytes [] [] = refl
same_bytes [] (y ∷ m) = rw (ne_eqb 0 (suc (length m)) (λ e. omega arith)) refl
same_bytes (x ∷ l) [] = rw (ne_eqb (suc (length l)) 0 (λ e. omega arith)) refl
same_bytes (x ∷ l) (y ∷ m) =
    ap (λ (t : Bool). cond (eqb x y) t false) (same_bytes l m)
    ∙ and_later (eqb x y) (eqb (length l) (length m)) (bytes_at l 0 m)
    ∙ rw (bytes_behind x l 0 m, eqb_suc (length l) (length m)) refl
