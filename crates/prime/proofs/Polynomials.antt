-- A polynomial has few roots. Dividing f by X - r leaves the list of the values at r of f's later parts; written with no subtraction,
-- f(x) + r·q(x) = f(r) + x·q(x). So another root of f is a root of q, which is one coefficient shorter.
use mathlib.Core.Path.{◌≡◌, refl, ap, ◌∙◌}
use mathlib.Core.Logic.{◌≢◌}
use mathlib.Core.List.{List, [], ◌∷◌}
use Prim.Native.Nat.{ℕ, suc, ◌+◌, ◌*◌, ◌%◌, ◌<◌}
use native.Mathlib.Omega.{arith}
use native.Mathlib.Nat.{zero-mod, zero-lt-suc}
use native.Mathlib.Decide.{ℕ_discrete}
use lib.ListN.{length}
use Rattle.prime.specs.Lists.{Each}
use Rattle.prime.specs.Polynomials.{value, Root, Zero, Different}
use Rattle.prime.proofs.Fields.{Field}
use Rattle.prime.proofs.Congruence.{same, multiple_of_zero}
use Rattle.prime.proofs.Inverses.{cancel}

-- the quotient of c ∷ cs by X - r, whatever c is
quotient : ℕ → List ℕ → List ℕ
quotient r [] = []
quotient r (c ∷ cs) = value r (c ∷ cs) ∷ quotient r cs

quotient_length : (r : ℕ) (cs : List ℕ) → length (quotient r cs) ≡ length cs
unfolding quotient
quotient_length r [] = refl
quotient_length r (c ∷ cs) = ap suc (quotient_length r cs)

division : (x r : ℕ) (cs : List ℕ) → x * value x cs + r * value x (quotient r cs) ≡ r * value r cs + x * value x (quotient r cs)
unfolding quotient value
division x r [] = omega arith
division x r (c ∷ cs) = omega (arith, ap (λ (y : ℕ). x * y) (division x r cs))

module _ (m : ℕ) (big : 1 < m) (field : Field m) where
  -- another root of f is one of the quotient
  other_root : (c r x : ℕ) (cs : List ℕ) → Root m (c ∷ cs) r → r % m ≢ x % m → Root m (c ∷ cs) x → Root m (quotient r cs) x
  unfolding value
  other_root c r x cs fr h fx = go (ℕ_discrete (e % m) 0)
    where
      e : ℕ
      e = value x (quotient r cs)

      go : Dec (e % m ≡ 0) → e % m ≡ 0
      go (yes z) = z
      go (no nz) =
          let (a, p) = multiple_of_zero m (c + r * value r cs) fr in
          let (b, q) = multiple_of_zero m (c + x * value x cs) fx in
          absurd (h (cancel m big field e r x nz (same m (e * r) (e * x) b a (omega (arith, division x r cs)))))

  other_roots : (c r : ℕ) (cs rs : List ℕ) → Root m (c ∷ cs) r → Each (λ (x : ℕ). r % m ≢ x % m) rs → Each (Root m (c ∷ cs)) rs
      → Each (Root m (quotient r cs)) rs
  other_roots c r cs [] fr ds fs = tt
  other_roots c r cs (x ∷ rs) fr ds fs = (other_root c r x cs fr ds.0 fs.0, other_roots c r cs rs fr ds.1 fs.1)

  -- where f(r) and the quotient are all 0, f is
  constant : (c r v : ℕ) → v % m ≡ 0 → (c + r * v) % m ≡ 0 → c % m ≡ 0
  constant c r v z e =
      let (a, p) = multiple_of_zero m v z in
      let (b, q) = multiple_of_zero m (c + r * v) e in
      same m c 0 (r * a) b (omega (arith, ap (λ (y : ℕ). r * y) p)) ∙ zero-mod m

  all_zero : (r : ℕ) (cs : List ℕ) → Zero m (quotient r cs) → Zero m cs × (value r cs % m ≡ 0)
  unfolding quotient value
  all_zero r [] z = (tt, zero-mod m)
  all_zero r (c ∷ cs) z =
      let (zs, v) = all_zero r cs z.1 in
      ((constant c r (value r cs) v z.0, zs), z.0)

  pub few_roots : (rs cs : List ℕ) → ¬ Zero m cs → Different m rs → Each (Root m cs) rs → length rs < length cs
  unfolding value
  few_roots [] [] nz d f = absurd (nz tt)
  few_roots [] (c ∷ cs) nz d f = zero-lt-suc (length cs)
  few_roots (r ∷ rs) [] nz d f = absurd (nz tt)
  few_roots (r ∷ rs) (c ∷ cs) nz d f =
      let not_zero : ¬ Zero m (quotient r cs) = λ z. let (zs, v) = all_zero r cs z in nz (constant c r (value r cs) v f.0, zs) in
      omega (arith, quotient_length r cs, few_roots rs (quotient r cs) not_zero d.1 (other_roots c r cs rs f.0 d.0 f.1))
