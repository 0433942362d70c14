-- The rules of the shifts, at each arm of the code's match on the exponent.
use mathlib.Core.Path.{◌≡◌, ap}
use Prim.Native.Nat.{ℕ, ◌+◌, ◌-◌, ◌*◌, ◌/◌, ◌%◌, ◌^◌, ◌<◌, ◌≤◌}
use native.Mathlib.Nat.{mod-mod, mod-eq_of_lt}
use native.Mathlib.Omega.{arith}
use borrow.Author.Tests.{lt-ltb, le-ltb, le-leb, lt-leb, ne_eqb}
use Rattle.words.specs.Words.{plus_P, add_word, neg_word, mul_word, halve_word}
use Rattle.shifts.specs.Shifts.{entry, up_word, shift_up_word, split_word, down_word, shift_down_word}

module _ (x e : ℕ) where
  pub up_none : e ≡ 0 → x ≡ shift_up_word x e
  unfolding up_word shift_up_word
  up_none h = rw h

  pub up_once : e ≡ 1 → add_word x x ≡ shift_up_word x e
  unfolding up_word shift_up_word
  up_once h = rw h

  pub up_table : 2 ≤ e → e < 96 → mul_word x (entry e) ≡ shift_up_word x e
  unfolding up_word shift_up_word
  up_table h k = rw (mod-eq_of_lt {n = e} {m = 192} (omega arith), ne_eqb e 0 (omega arith), ne_eqb e 1 (omega arith), lt-ltb e 96 k)

  pub up_negative : 96 ≤ e → e < 192 → mul_word (neg_word x) (entry (e - 96)) ≡ shift_up_word x e
  unfolding up_word shift_up_word
  up_negative h k = rw (mod-eq_of_lt {n = e} {m = 192} k, ne_eqb e 0 (omega arith), ne_eqb e 1 (omega arith), le-ltb e 96 h)

  pub up_rest : shift_up_word x (e % 192) ≡ shift_up_word x e
  unfolding shift_up_word
  up_rest = ap (up_word x) (mod-mod e 192)

  pub down_none : e % 192 ≡ 0 → x ≡ shift_down_word x e
  unfolding down_word shift_down_word
  down_none h = rw h

  pub down_once : e % 192 ≡ 1 → halve_word x ≡ shift_down_word x e
  unfolding down_word shift_down_word
  down_once h = rw h

  pub down_split : 2 ≤ e % 192 → e % 192 ≤ 32 → split_word x (e % 192) ≡ shift_down_word x e
  unfolding down_word shift_down_word
  down_split h k = rw (ne_eqb (e % 192) 0 (omega arith), ne_eqb (e % 192) 1 (omega arith), le-leb (e % 192) 32 k)

  pub down_up : 32 < e % 192 → shift_up_word x (192 - e % 192) ≡ shift_down_word x e
  unfolding shift_up_word down_word shift_down_word
  down_up h =
      rw (ne_eqb (e % 192) 0 (omega arith), ne_eqb (e % 192) 1 (omega arith), lt-leb (e % 192) 32 h) (ap (up_word x) (mod-eq_of_lt (omega arith)))

-- the steps of `div_by_split`
pub split_steps : (x e l h s b : ℕ) → l ≡ x % 2 ^ e → h ≡ x / 2 ^ e → s ≡ l * 2 ^ (32 - e) → b ≡ l * 2 ^ (64 - e) → plus_P (h + s) b ≡ split_word x e
unfolding split_word
split_steps x e l h s b p q u v = rw (v, u, q, p)
