-- The turns of the algorithm of Tonelli and Shanks. With e the exponent so far, r = x^(2^31)·G^(e/2) and t = x^(2^32 - 1)·G^e, so e undoes x once t
-- is 1. A turn finds the order 2^i of t, below 2^m, adds 2^(32 - i) to e, and brings the order below 2^i. Only the first may find none below 2^m.
use mathlib.Core.Path.{◌≡◌, refl, sym, ap, ◌∙◌}
use mathlib.Core.Bool.{true, false}
use mathlib.Core.Logic.{◌⊎◌, inl, inr, ◌≢◌, ⊎_elim}
use Prim.Native.Nat.{ℕ, zero, suc, ◌+◌, ◌-◌, ◌*◌, ◌/◌, ◌%◌, ◌^◌, ◌≤◌, ◌<◌}
use native.Mathlib.Omega.{arith}
use native.Mathlib.Nat.{mul-one, two-pow-succ}
use borrow.Author.Tests.{eqb-true, eqb-false}
use lib.Dec.{eqb}
use lib.Pow.{pow_mono}
use Rattle.prime.specs.Modulus.{P}
use Rattle.prime.specs.Powers.{power, power_zero}
use Rattle.prime.proofs.Powers.{power_same, power_mod}
use Rattle.prime.proofs.Search.{Least}
use Rattle.prime.proofs.Theorems.{power_mul, euler}
use Rattle.answers.specs.declared.refusals.Refusal.TheVariants.{NoSquareRoot}
use Rattle.std.specs.Prelude.{Ok, Err}
use Rattle.answers.specs.Answers.{Answer}
use Rattle.answers.specs.Promises.{Held}
use Rattle.words.specs.Words.{canonical}
use Rattle.words.proofs.Laws.{canonical_is}
use Rattle.roots.specs.Promises.{Rooted}
use Rattle.roots.specs.Roots.{G, generator_word, order_log}
use Rattle.roots.proofs.Exponents.{Raised, first, times}
use Rattle.roots.proofs.SquareRootOrder.{more, order_falls}
use Rattle.roots.proofs.SquareRootSearch.{is_one, found}
use Rattle.roots.proofs.SquareRootWord.{root_is, root_squares, rooted, unrooted}

-- e is twice `half`, and m is `last` + 1; `done` is 0 before the first turn, and m + done = 32 all the time
pub record Progress (x r t m : ℕ) : Type 0 where
  pub half : ℕ
  pub last : ℕ
  pub done : ℕ
  pub bound : m ≡ suc last
  pub whole : last + done ≡ 31
  pub small : half < 2 ^ done
  pub nonzero : x % P ≢ 0
  pub root : r % P ≡ power P x (2 ^ 31) * power P G half % P
  pub root_below : r < 2 ^ 64
  pub rest : t % P ≡ power P x (2 ^ 32 - 1) * power P G (half + half) % P
  pub order : (done ≡ 0) ⊎ (power P t (2 ^ last) ≡ 1)

-- ---- the start

times_none : (a : ℕ) → a * power P G 0 % P ≡ a % P
times_none a = ap (λ (n : ℕ). a * n % P) (power_zero P G) ∙ ap (λ (n : ℕ). n % P) (mul-one a)

pub start : (x u r t : ℕ) → eqb (x % P) 0 ≡ false → u % P ≡ power P x (2 ^ 31 - 1) → r % P ≡ u * x % P → t % P ≡ r * u % P → r < 2 ^ 64 → Progress x r t 32
start x u r t n e f g h = record {
  half = 0;
  last = 31;
  done = 0;
  bound = refl;
  whole = refl;
  small = omega arith;
  nonzero = eqb-false _ _ n;
  root = raised_root.power_is ∙ sym (times_none _ ∙ power_mod P x (2 ^ 31));
  root_below = h;
  rest = (times raised_root chain g).power_is ∙ sym (times_none _ ∙ power_mod P x (2 ^ 32 - 1));
  order = inl refl;
}
  where
    chain : Raised x (2 ^ 31 - 1) u
    chain = record { power_is = e }

    raised_root : Raised x (2 ^ 31) r
    raised_root = times chain (first x) f

-- ---- a turn

module _ {x r t m : ℕ} (p : Progress x r t m) where
  -- where the order is 2^(j + 1), half the exponent gains 2^d
  turn_at : (r' t' j d : ℕ) → j + d ≡ 30 → suc j < m → Least (is_one t) m (suc j) → r' % P ≡ r * power P G (2 ^ d) % P
      → t' % P ≡ t * power P G (2 ^ suc d) % P → r' < 2 ^ 64 → Progress x r' t' (suc j)
  turn_at r' t' j d s l f e g h = record {
    half = p.half + 2 ^ d;
    last = j;
    done = suc d;
    bound = refl;
    whole = omega arith;
    small = omega (arith, p.small, two-pow-succ d, pow_mono (let q : p.done ≤ d = omega (arith, p.bound, p.whole) in q));
    nonzero = p.nonzero;
    root = e ∙ more _ G p.half (2 ^ d) r p.root;
    root_below = h;
    rest =
        g ∙ more _ G (p.half + p.half) (2 ^ suc d) t p.rest
        ∙ ap (λ (n : ℕ). power P x (2 ^ 32 - 1) * power P G n % P)
        (let q : p.half + p.half + 2 ^ suc d ≡ p.half + 2 ^ d + (p.half + 2 ^ d) = omega (arith, two-pow-succ d) in q);
    order = inr
        (power_same P t' _ (2 ^ j) g
        ∙ order_falls t j (suc d) (omega arith) (eqb-true _ _ (f.passes l)) (eqb-false _ _ (f.before j (omega arith))));
  }

  -- the order is not 2^0, since t is not 1
  pub turn : (i r' t' g g' : ℕ) → eqb (t % P) 1 ≡ false → i ≡ order_log t m → i < m → g ≡ generator_word (i + 1) → r' % P ≡ r * g % P
      → g' ≡ generator_word i → t' % P ≡ t * g' % P → r' < 2 ^ 64 → Progress x r' t' i
  turn zero r' t' g g' n f l e u e' v h = absurd (eqb-false _ _ n ((first t).power_is ∙ eqb-true _ _ ((found t m 0 f).passes l)))
  turn (suc j) r' t' g g' n f l e u e' v h =
      let s : j + (30 - j) ≡ 30 = omega (arith, p.bound, p.whole) in
      turn_at r' t' j (30 - j) s l (found t m (suc j) f)
      (u ∙ ap (λ (y : ℕ). r * y % P) (e ∙ ap (λ (n : ℕ). power P G (2 ^ n)) (let q : 32 - (suc j + 1) ≡ 30 - j = omega arith in q)))
      (v ∙ ap (λ (y : ℕ). t * y % P) (e' ∙ ap (λ (n : ℕ). power P G (2 ^ n)) (let q : 32 - suc j ≡ suc (30 - j) = omega (arith, s) in q))) h

  -- ---- the ends

  pub ends : (v : ℕ) → eqb (t % P) 1 ≡ true → Held (canonical r) (r % P) v → Rooted x (Ok v)
  ends v one a =
      let undone = sym p.rest ∙ eqb-true _ _ one in
      let below : p.half + p.half < 2 ^ 32 = omega (arith, p.small, pow_mono (let q : p.done ≤ 31 = omega (arith, p.whole) in q)) in
      rooted x v (a.word ∙ canonical_is r p.root_below ∙ p.root ∙ sym (root_is x p.half undone p.nonzero below))
      (root_squares x p.half undone v (a.element ∙ p.root))

  -- before the first turn t is x^(2^32 - 1)
  first_power : p.done ≡ 0 → power P t (2 ^ p.last) ≡ power P x ((P - 1) / 2)
  first_power z =
      ap (λ (n : ℕ). power P t (2 ^ n)) (let q : p.last ≡ 31 = omega (arith, p.whole) in q)
      ∙ power_same P t (power P x (2 ^ 32 - 1)) (2 ^ 31)
      (p.rest ∙ ap (λ (n : ℕ). power P x (2 ^ 32 - 1) * power P G n % P) (let q : p.half + p.half ≡ 0 = omega (arith, rw z at p.small) in q)
      ∙ times_none (power P x (2 ^ 32 - 1)))
      ∙ sym (power_mul x (2 ^ 32 - 1) (2 ^ 31))

  -- after it t^(2^last) is 1, which a search finds; and where the first finds nothing, x^((P - 1) / 2) is not 1
  pub refuses : (r : Answer) → r ≡ Err NoSquareRoot → order_log t m ≡ m → Rooted x r
  refuses r e f =
      rw e (unrooted x (λ s. eqb-false _ _ ((found t m m (sym f)).before p.last (omega (arith, p.bound)))
      (⊎_elim (λ z. first_power z ∙ (euler x p.nonzero).0 s) (λ e. e) p.order)))
