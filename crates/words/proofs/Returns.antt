-- What the returns of the first operations promise, by the tests on the way to each.
use Rattle.std.proofs.Common.{◌≡◌, ℕ, ◌+◌, ◌-◌, ◌*◌, ◌/◌, ◌%◌, ◌^◌, ◌<◌, ◌≤◌, arith, le-ltb, lt-ltb, le-leb, eq-eqb, ne_eqb}
use borrow.Author.Tests.{lt-leb}
use Rattle.prime.specs.Modulus.{P}
use Rattle.prime.specs.Elements.{half}
use Rattle.answers.specs.Promises.{Held}
use Rattle.answers.proofs.Stands.{held}
use Rattle.words.specs.Words.{canonical, add_word, sub_word, halve_word}
use Rattle.words.proofs.Laws.{canonical_stands, add_stands, sub_stands, halve_stands}
use Rattle.words.proofs.Corrections.{add_none, add_one, add_two}

pub canonical_above : {x : ℕ} → x < 2 ^ 64 → P ≤ x → Held (canonical x) (x % P) (x - P)
unfolding canonical
canonical_above {x} f h = held (simp (le-ltb x P h)) (canonical_stands x f)

pub canonical_below : {x : ℕ} → x < 2 ^ 64 → x < P → Held (canonical x) (x % P) x
unfolding canonical
canonical_below {x} f h = held (simp (lt-ltb x P h)) (canonical_stands x f)

pub half_of_even : {x : ℕ} → x < 2 ^ 64 → x % 2 ≡ 0 → Held (halve_word x) (x * half % P) (x / 2)
unfolding halve_word
half_of_even {x} f h = held (simp (eq-eqb (x % 2) 0 h)) (halve_stands x f)

pub half_of_odd : {x : ℕ} → x < 2 ^ 64 → (x % 2 ≡ 0 → ⊥) → Held (halve_word x) (x * half % P) (x / 2 + 9223372034707292161)
unfolding halve_word
half_of_odd {x} f h = held (simp (ne_eqb (x % 2) 0 h) (omega arith)) (halve_stands x f)

pub sum_within : {x y s : ℕ} → x < 2 ^ 64 → y < 2 ^ 64 → s ≡ (x + y) % 2 ^ 64 → x ≤ s → Held (add_word x y) ((x + y) % P) s
sum_within {x} {y} {s} f g e l = held (add_none x y s f g e l) (add_stands x y f g)

pub sum_wrapped : {x y s o : ℕ} → x < 2 ^ 64 → y < 2 ^ 64 → s ≡ (x + y) % 2 ^ 64 → s < x → o ≡ (s + (2 ^ 32 - 1)) % 2 ^ 64 → s ≤ o
    → Held (add_word x y) ((x + y) % P) o
sum_wrapped {x} {y} {s} {o} f g e l q m = held (add_one x y s f g e o q l m) (add_stands x y f g)

pub sum_wrapped_twice : {x y s o : ℕ} → x < 2 ^ 64 → y < 2 ^ 64 → s ≡ (x + y) % 2 ^ 64 → s < x → o ≡ (s + (2 ^ 32 - 1)) % 2 ^ 64 → o < s
    → Held (add_word x y) ((x + y) % P) (o + (2 ^ 32 - 1))
sum_wrapped_twice {x} {y} {s} {o} f g e l q m = held (add_two x y s f g e o q l m) (add_stands x y f g)

-- the rule for a difference, by cases, and what it stands for
pub sub_within : {x y : ℕ} → y ≤ x → sub_word x y ≡ x - y
unfolding sub_word
sub_within {x} {y} l = simp (le-leb y x l)

pub sub_once_more : {x y : ℕ} → x < y → y ≤ x + P → sub_word x y ≡ x + P - y
unfolding sub_word
sub_once_more {x} {y} l m = simp (lt-leb y x l, le-leb y (x + P) m)

pub sub_twice_more : (x y : ℕ) → x + P < y → sub_word x y ≡ x + P + P - y
unfolding sub_word
sub_twice_more x y m = simp (lt-leb y x (omega arith), lt-leb y (x + P) m)

pub sub_element : {x y : ℕ} → x < 2 ^ 64 → y < 2 ^ 64 → sub_word x y % P ≡ (x + (P - 1) * y) % P
sub_element {x} {y} f g = (sub_stands x y f g).element
