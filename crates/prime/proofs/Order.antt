-- What a certificate says of the order of g: where g^N = 1 modulo m and g^(N / q) is not 1 for any prime q of N, every d with g^d = 1 is
-- a multiple of N. For d has each prime factor of N, one after the other: if n divides d and n·q does not, then d·u is n modulo n·q for
-- some u, so g^(N / q) is a power of g^d, which is 1.
use mathlib.Core.Path.{◌≡◌, sym, ap, ◌∙◌, subst}
use mathlib.Core.Logic.{◌⊎◌, inl, inr, ◌≢◌}
use mathlib.Core.List.{List, [], ◌∷◌}
use mathlib.Core.Bool.{not}
use Prim.Native.Nat.{ℕ, suc, ◌+◌, ◌*◌, ◌<◌}
use native.Mathlib.Omega.{arith}
use native.Mathlib.Nat.{mul-one, mul_assoc, mul_left_comm}
use lib.Dec.{T, eqb, eqb→eq, T_not}
use mir.Facts.{and_yes}
use Rattle.prime.specs.Lists.{Each}
use Rattle.prime.specs.Powers.{power}
use Rattle.prime.specs.Residues.{Multiple}
use Rattle.prime.proofs.Certificate.{product, pratt}
use Rattle.prime.proofs.Fast.{fast, fast_power}
use Rattle.prime.proofs.Fields.{Inverse, Field}
use Rattle.prime.proofs.Powers.{power_times, power_more}

-- d·u·k = n·k·(1 + q·v), which is N / q and a multiple of N
gathered : (q n k d c u v : ℕ) → d ≡ n * c → c * u ≡ 1 + q * v → d * (u * k) ≡ n * k + q * (n * k) * v
gathered q n k d c u v e f = omega (arith, ap (λ (x : ℕ). x * (u * k)) e, ap (λ (x : ℕ). n * k * x) f)

-- one prime factor q more: n is what is known to divide d, and k the rest of N
step : (m g q n k d : ℕ) → 1 < m → power m g (q * (n * k)) ≡ 1 → power m g (n * k) ≢ 1 → Field q → power m g d ≡ 1 → Multiple n d
    → Multiple (n * q) d
step m g q n k d big all not_one field one (c, e) = go (field c)
  where
    go : Multiple q c ⊎ Inverse q c → Multiple (n * q) d
    go (inl (w, f)) = (w, e ∙ ap (λ (x : ℕ). n * x) f ∙ sym (mul_assoc n q w))
    go (inr (u, v, f)) =
        absurd (not_one
        (sym (power_more m g (n * k) (q * (n * k) * v) (power_times m g (q * (n * k)) v big all))
        ∙ ap (power m g) (sym (gathered q n k d c u v e f)) ∙ power_times m g d (u * k) big one))

module _ (m g : ℕ) where
  -- the certificate's two clauses
  last : (n : ℕ) → T (pratt m g n []) → (suc n ≡ m) × (power m g n ≡ 1)
  unfolding pratt
  last n t =
      let (size, one) = and_yes (eqb (suc n) m) (eqb (fast m g n) 1) t in
      (eqb→eq (suc n) m size, sym (fast_power m g n) ∙ eqb→eq (fast m g n) 1 one)

  next : (n q : ℕ) (qs : List ℕ) → T (pratt m g n (q ∷ qs)) → (power m g (n * product qs) ≢ 1) × T (pratt m g (n * q) qs)
  unfolding pratt
  next n q qs t =
      let x : ℕ = fast m g (n * product qs) in
      let (not_one, rest) = and_yes (not (eqb x 1)) (pratt m g (n * q) qs) t in
      (λ e. T_not (eqb x 1) not_one (subst (λ (y : ℕ). T (eqb y 1)) (sym (fast_power m g (n * product qs) ∙ e)) tt), rest)

  -- m is N + 1, and g^N = 1
  pub top : (n : ℕ) (qs : List ℕ) → T (pratt m g n qs) → (suc (n * product qs) ≡ m) × (power m g (n * product qs) ≡ 1)
  top n [] t = rw (mul-one n) (last n t)
  top n (q ∷ qs) t = rw (← mul_assoc n q (product qs)) (top (n * q) qs (next n q qs t).1)

  -- N divides d
  pub climb : (n d : ℕ) (qs : List ℕ) → 1 < m → T (pratt m g n qs) → Each Field qs → power m g d ≡ 1 → Multiple n d
      → Multiple (n * product qs) d
  climb n d [] big t fields one h = rw (mul-one n) h
  climb n d (q ∷ qs) big t fields one h =
      let (not_one, rest) = next n q qs t in
      let all = rw (mul_left_comm n q (product qs)) at (top n (q ∷ qs) t).1 in
      rw (← mul_assoc n q (product qs))
      (climb (n * q) d qs big rest fields.1 one (step m g q n (product qs) d big all not_one fields.0 one h))
