-- Shifts by powers of two, up and down. Modulo P, 2^96 is -1 and 2^192 is 1, and a half is the inverse of 2.
use mathlib.Core.Path.{◌≡◌, refl, sym, ap, ◌∙◌}
use Prim.Native.Nat.{ℕ, ◌+◌, ◌-◌, ◌*◌, ◌/◌, ◌%◌, ◌^◌, ◌<◌, ◌≤◌}
use native.Mathlib.Nat.{mod-lt, mod-mod, mul-one, mul_comm, mul-le-mul_right, lt_of_lt_of_le}
use native.Mathlib.Omega.{arith}
use lib.Dec.{lit<}
use lib.Pow.{pow-add, pow_mono, pow_pos, shr_lt, split}
use Rattle.prime.specs.Modulus.{P}
use Rattle.prime.specs.Powers.{power}
use Rattle.prime.specs.Elements.{half}
use Rattle.prime.proofs.Congruence.{same, mul_same_left, mul_same_right, times_one}
use Rattle.prime.proofs.Powers.{power_period}
use Rattle.prime.proofs.Theorems.{power_is, power_add, two_96}
use Rattle.prime.proofs.Halves.{two_period, half_period, halves_undo, undo_shift, there_and_back}
use Rattle.prime.proofs.Choice.{by_lt, by_le, by_eq}
use Rattle.answers.proofs.Stands.{Stands, itself, to}
use Rattle.words.specs.Words.{neg_word}
use Rattle.words.proofs.Corrections.{plus_stands}
use Rattle.words.proofs.Laws.{add_stands, neg_stands, mul_stands, halve_stands}
use Rattle.shifts.specs.Shifts.{entry, up_word, shift_up_word, split_word, down_word, shift_down_word}

-- the shift up

entry_below : (e : ℕ) → entry e < 2 ^ 64
entry_below e = omega arith

past_96 : (e : ℕ) → 96 ≤ e → power P 2 e ≡ (P - 1) * entry (e - 96) % P
past_96 e h =
    ap (power P 2) (let r : e ≡ 96 + (e - 96) = omega arith in r) ∙ power_add 2 96 (e - 96)
    ∙ rw (power_is 2 96, two_96, power_is 2 (e - 96))

negated : (x d w : ℕ) → w % P ≡ (P - 1) * x % P → w * d % P ≡ x * ((P - 1) * d % P) % P
negated x d w h =
    mul_same_left P w ((P - 1) * x) d h ∙ ap (λ (n : ℕ). n % P) (let r : (P - 1) * x * d ≡ x * ((P - 1) * d) = omega arith in r)
    ∙ sym (mul_same_right P x ((P - 1) * d % P) ((P - 1) * d) (mod-mod ((P - 1) * d) P))

up_stands : (x e : ℕ) → x < 2 ^ 64 → Stands (x * power P 2 e % P) (up_word x e)
unfolding up_word
up_stands x e h =
    by_eq (Stands (x * power P 2 e % P)) e 0 (λ t. to (rw (t, power_is 2 0, mul-one x)) (itself x h))
    (λ n. by_eq (Stands (x * power P 2 e % P)) e 1 (λ t. to (rw (t, power_is 2 1) (omega arith)) (add_stands x x h h))
    (λ o. by_lt (Stands (x * power P 2 e % P)) e 96 (λ t. to (rw (power_is 2 e)) (mul_stands x (entry e) h (entry_below e)))
    (λ t. to (rw (past_96 e t) (negated x (entry (e - 96)) (neg_word x) (neg_stands x h).element))
    (mul_stands (neg_word x) (entry (e - 96)) (neg_stands x h).below (entry_below (e - 96))))))

pub shift_up_stands : (x e : ℕ) → x < 2 ^ 64 → Stands (x * power P 2 e % P) (shift_up_word x e)
unfolding shift_up_word
shift_up_stands x e h = to (ap (λ (n : ℕ). x * n % P) (power_period P 2 192 e (lit< tt) two_period)) (up_stands x (e % 192) h)

-- the shift down by 1 to 32, with l the low e bits and h the bits above

-- (h + l·a - l·b)·2^e is h·2^e + l, less l·P; -1 is written s, so that P is s + 1
split_back : (h l a b e w s t : ℕ) → a * e ≡ w → b * e ≡ t + 1 → s + w ≡ t + 1
    → (h + l * a + s * (l * b)) * e % (s + 1) ≡ (h * e + l) % (s + 1)
split_back h l a b e w s t f g k =
    same (s + 1) _ (h * e + l) 0 (l * t) (omega (arith, ap (λ (n : ℕ). l * n) f, ap (λ (n : ℕ). s * l * n) g, ap (λ (n : ℕ). l * n) k))

module _ (e : ℕ) (i : 1 ≤ e) (k : e ≤ 32) where
  up_by : (n : ℕ) → 32 ≤ n → 2 ^ (n - e) * 2 ^ e ≡ 2 ^ n
  up_by n m = sym (pow-add 2 (n - e) e) ∙ ap (λ (j : ℕ). 2 ^ j) (let r : n - e + e ≡ n = omega arith in r)

  -- l·2^(n - e) has n bits, with room for 2^(n - e)
  pub low_room : (n l : ℕ) → 32 ≤ n → l < 2 ^ e → l * 2 ^ (n - e) + 2 ^ (n - e) ≤ 2 ^ n
  low_room n l m h =
      let p : (l + 1) * 2 ^ (n - e) ≤ 2 ^ e * 2 ^ (n - e) = mul-le-mul_right (2 ^ (n - e)) (omega arith) in
      omega (arith, up_by n m)

  pub high_room : (x : ℕ) → x < 2 ^ 64 → x / 2 ^ e < 2 ^ 63
  high_room x h = shr_lt 63 e (lt_of_lt_of_le h (pow_mono {i = 64} (omega arith)))

  -- what is taken away is at most P, so one correction is enough
  pub taken_room : (l : ℕ) → l < 2 ^ e → l * 2 ^ (64 - e) ≤ P
  taken_room l h =
      let m : 2 ^ 32 ≤ 2 ^ (64 - e) = pow_mono {i = 32} (omega arith) in
      omega (arith, low_room 64 l (omega arith) h)

  back : (x : ℕ) → (x / 2 ^ e + x % 2 ^ e * 2 ^ (32 - e) + (P - 1) * (x % 2 ^ e * 2 ^ (64 - e))) * power P 2 e % P ≡ x % P
  back x =
      rw (power_is 2 e)
      (mul_same_right P _ (2 ^ e % P) (2 ^ e) (mod-mod (2 ^ e) P)
      ∙ split_back (x / 2 ^ e) (x % 2 ^ e) _ _ (2 ^ e) _ (P - 1) (2 ^ 64 - 1) (up_by 32 (omega arith)) (up_by 64 (omega arith)) refl
      ∙ ap (λ (n : ℕ). n % P) (split x e))

  split_stands : (x : ℕ) → x < 2 ^ 64 → Stands (x * power P half e % P) (split_word x e)
  unfolding split_word
  split_stands x h =
      let l : x % 2 ^ e < 2 ^ e = mod-lt x (pow_pos e) in
      to (undo_shift x e _ (back x))
      (plus_stands (x / 2 ^ e + x % 2 ^ e * 2 ^ (32 - e)) (x % 2 ^ e * 2 ^ (64 - e))
      (omega (arith, high_room x h, low_room 32 (x % 2 ^ e) (omega arith) l)) (omega (arith, taken_room (x % 2 ^ e) l)))

-- the shift down

down_stands : (x e : ℕ) → x < 2 ^ 64 → e < 192 → Stands (x * power P half e % P) (down_word x e)
unfolding down_word
down_stands x e h k =
    by_eq (Stands (x * power P half e % P)) e 0 (λ t. to (rw (t, power_is half 0, mul-one x)) (itself x h))
    (λ n. by_eq (Stands (x * power P half e % P)) e 1 (λ t. to (rw (t, power_is half 1)) (halve_stands x h))
    (λ o. by_le (Stands (x * power P half e % P)) e 32 (λ t. split_stands e (omega arith) t x h)
    (λ t. to (undo_shift x e (x * power P 2 (192 - e)) (times_one P x (power P 2 (192 - e)) (power P 2 e) around)) (up_stands x (192 - e) h))))
  where
    around : power P 2 (192 - e) * power P 2 e % P ≡ 1
    around = sym (power_add 2 (192 - e) e) ∙ ap (power P 2) (let r : 192 - e + e ≡ 192 = omega arith in r) ∙ two_period

pub shift_down_stands : (x e : ℕ) → x < 2 ^ 64 → Stands (x * power P half e % P) (shift_down_word x e)
unfolding shift_down_word
shift_down_stands x e h = to (ap (λ (n : ℕ). x * n % P) (power_period P half 192 e (lit< tt) half_period)) (down_stands x (e % 192) h (mod-lt e (lit< tt)))

-- shifts by e and by e + 192 agree, and each shift undoes the other

pub shift_up_again : (x e : ℕ) → shift_up_word x (e + 192) ≡ shift_up_word x e
unfolding shift_up_word
shift_up_again x e = ap (up_word x) (omega arith)

pub shift_down_again : (x e : ℕ) → shift_down_word x (e + 192) ≡ shift_down_word x e
unfolding shift_down_word
shift_down_again x e = ap (down_word x) (omega arith)

pub down_undoes_up : (x e : ℕ) → x < 2 ^ 64 → shift_down_word (shift_up_word x e) e % P ≡ x % P
down_undoes_up x e h =
    let up : Stands (x * power P 2 e % P) (shift_up_word x e) = shift_up_stands x e h in
    (shift_down_stands (shift_up_word x e) e up.below).element
    ∙ there_and_back x (power P 2 e) (power P half e) (shift_up_word x e) (halves_undo e) up.element

pub up_undoes_down : (x e : ℕ) → x < 2 ^ 64 → shift_up_word (shift_down_word x e) e % P ≡ x % P
up_undoes_down x e h =
    let down : Stands (x * power P half e % P) (shift_down_word x e) = shift_down_stands x e h in
    (shift_up_stands (shift_down_word x e) e down.below).element
    ∙ there_and_back x (power P half e) (power P 2 e) (shift_down_word x e) (rw (mul_comm (power P half e)) (halves_undo e)) down.element
