-- What the definitions of the square root say. The search for a root meets one if there is one. An h with x^(2^32 - 1)·G^(h + h) = 1 gives the
-- exponent h + h, since no other below 2^32 will do; then the root of x is x^(2^31)·G^h, and its square is x.
use mathlib.Core.Path.{◌≡◌, refl, sym, ap, ◌∙◌}
use mathlib.Core.Bool.{Bool, true, false}
use mathlib.Core.Logic.{◌≢◌, ◌↔◌}
use Prim.Native.Nat.{ℕ, ◌+◌, ◌-◌, ◌*◌, ◌/◌, ◌%◌, ◌^◌, ◌<◌}
use native.Mathlib.Omega.{arith}
use native.Mathlib.Nat.{mod-lt, mod-eq_of_lt, lt_of_le_of_lt}
use borrow.Author.Tests.{ltb-true, lt-ltb, eqb-true, eq-eqb, ne_eqb}
use lib.Dec.{lit<}
use Rattle.prime.specs.Modulus.{P}
use Rattle.prime.specs.Powers.{power, power_suc}
use Rattle.prime.specs.Residues.{Square}
use Rattle.prime.proofs.Congruence.{mul_same, mul_mod, times_one}
use Rattle.prime.proofs.Powers.{power_mod}
use Rattle.prime.proofs.Theorems.{power_add}
use Rattle.prime.proofs.Search.{least_law, least_first, least_only}
use Rattle.prime.proofs.Choice.{by_eq}
use Rattle.answers.specs.declared.refusals.Refusal.TheVariants.{NoSquareRoot}
use Rattle.std.specs.Prelude.{Ok, Err}
use Rattle.answers.proofs.Stands.{Stands, granted, refused}
use Rattle.roots.specs.Promises.{Rooted}
use Rattle.roots.specs.Roots.{G, is_square, exponent, root_word}
use Rattle.roots.proofs.SquareRootOrder.{undone_once}

-- a root may be taken modulo P, so the search below P meets one
pub is_square_lem : (x : ℕ) → (is_square x ≡ true) ↔ Square P x
unfolding is_square
is_square_lem x = (
  λ e. (_, eqb-true _ _ ((least_law _ P).passes (ltb-true _ _ e))),
  λ (y, e). lt-ltb _ _ (lt_of_le_of_lt (least_first _ P (y % P) (eq-eqb _ _ (sym (mul_mod P y y) ∙ e))) (mod-lt y (lit< tt))),
)

pub not_square : (x : ℕ) → ¬ Square P x → is_square x ≡ false
not_square x h = go (is_square x) refl
  where
    go : (b : Bool) → is_square x ≡ b → b ≡ false
    go true e = absurd (h ((is_square_lem x).0 e))
    go false e = refl

exponent_is : (x e : ℕ) → e < 2 ^ 32 → power P x (2 ^ 32 - 1) * power P G e % P ≡ 1 → exponent x ≡ e
unfolding exponent
exponent_is x e h one =
    least_only _ (2 ^ 32) e h (eq-eqb _ _ one) (λ j l t. undone_once (power P x (2 ^ 32 - 1)) j e l h (eqb-true _ _ t) one)

-- x^(2^31)·G^h squared is x^(2^32)·G^(h + h), that is x·(x^(2^32 - 1)·G^(h + h))
pub squared : (x h r : ℕ) → r % P ≡ power P x (2 ^ 31) * power P G h % P → r * r % P ≡ x * power P x (2 ^ 32 - 1) * power P G (h + h) % P
squared x h r e =
    let a : ℕ = power P x (2 ^ 31) in
    let g : ℕ = power P G h in
    mul_same P r r (a * g) (a * g) e e ∙ ap (λ (n : ℕ). n % P) (let s : a * g * (a * g) ≡ a * a * (g * g) = omega arith in s)
    ∙ mul_same P (a * a) (g * g) (x * power P x (2 ^ 32 - 1)) (power P G (h + h)) (sym (power_add x (2 ^ 31) (2 ^ 31)) ∙ power_suc P x (2 ^ 32 - 1))
    (sym (power_add G h h) ∙ sym (power_mod P G (h + h)))

module _ (x h : ℕ) (one : power P x (2 ^ 32 - 1) * power P G (h + h) % P ≡ 1) where
  pub root_is : x % P ≢ 0 → h + h < 2 ^ 32 → root_word x ≡ power P x (2 ^ 31) * power P G h % P
  unfolding root_word
  root_is nonzero below =
      rw (ne_eqb (x % P) 0 nonzero, exponent_is x (h + h) below one)
      (ap (λ (n : ℕ). power P x (2 ^ 31) * power P G n % P) (let half : (h + h) / 2 ≡ h = omega arith in half))

  pub root_squares : (r : ℕ) → r % P ≡ power P x (2 ^ 31) * power P G h % P → r * r % P ≡ x % P
  root_squares r e = squared x h r e ∙ times_one P x (power P x (2 ^ 32 - 1)) (power P G (h + h)) one

-- the root is canonical
root_below : (x : ℕ) → root_word x < P
unfolding root_word
root_below x = by_eq (λ (n : ℕ). n < P) (x % P) 0 (λ _. lit< tt) (λ _. omega arith)

pub root_stands : (x : ℕ) → Stands (root_word x) (root_word x)
root_stands x = record { below = omega (arith, root_below x); element = mod-eq_of_lt (root_below x) }

-- ---- what is promised of an answer

pub rooted : (x v : ℕ) → v ≡ root_word x → v * v % P ≡ x % P → Rooted x (Ok v)
rooted x v e s = record {
  answered = granted (is_square x) ((is_square_lem x).1 (v, s)) e (root_stands x);
  none = λ h. absurd (omega arith);
  squares = λ _. s;
}

pub zero_rooted : (x : ℕ) → x % P ≡ 0 → Rooted x (Ok 0)
unfolding root_word
zero_rooted x z = rooted x 0 (rw (eq-eqb (x % P) 0 z)) (sym z)

pub unrooted : (x : ℕ) → ¬ Square P x → Rooted x (Err NoSquareRoot)
unrooted x h = record { answered = refused (is_square x) NoSquareRoot (not_square x h); none = λ _. h; squares = λ s. absurd (h s) }
