-- The shapes of readable lines: they have 37, 20 or 21 bytes, so that a line of another length is unreadable, and each length leaves one rule.
-- A word on a line is read back, and a line with a rule's words behind its name is one of the seven of specs/Grammar.antt.
use mathlib.Core.Path.{◌≡◌, refl, sym, ap, subst, ◌∙◌}
use mathlib.Core.List.{List, [], ◌∷◌, ◌++◌, append-nil}
use Prim.Native.Nat.{ℕ, suc, ◌-◌, ◌%◌, ◌^◌, ◌<◌}
use native.Mathlib.Nat.{mod-eq_of_lt}
use native.Mathlib.Omega.{arith}
use lib.ListN.{length, take, drop, length-append, length-drop, take-append-drop}
use lib.Seq.{append_snoc, take_at, take_all, drop_at}
use Rattle.prime.proofs.Choice.{by_test}
use Rattle.answers.specs.Answers.{Answer}
use Rattle.std.specs.Prelude.{Err}
use Rattle.answers.specs.declared.refusals.Refusal.TheVariants.{Unreadable}
use Rattle.text.specs.Names.{same}
use Rattle.text.specs.Digits.{hex, made}
use Rattle.text.proofs.NameLaws.{same_refl, same_true, same_length}
use Rattle.text.proofs.DigitLaws.{length_digits, made_digits}
use Rattle.desk_line.specs.Replies.{spaced, word_at, may_refuse, of_one, of_two, one, two, answer_to, add, sub, mul, neg, half, inv, root}
use Rattle.desk_line.specs.Grammar.{Line, adds, subs, muls, negs, halves, invs, roots}

-- the slice behind the first n bytes
pub rest_all : (n : ℕ) (line : List ℕ) → take (length line - n) (drop n line) ≡ drop n line
rest_all n line = take_all (length line - n) (drop n line) (omega (arith, length-drop n line))

-- ---- a line of another length

length_two : (x y : ℕ) → length (spaced x ++ spaced y) ≡ 34
length_two x y = omega (arith, length-append (hex 16 x) (spaced y), length_digits 16 16 x, length_digits 16 16 y)

length_one : (x : ℕ) → length (spaced x) ≡ 17
length_one x = omega (arith, length_digits 16 16 x)

pub two_other : (name rest : List ℕ) (other : Answer) → (length rest ≡ 34 → ⊥) → two name rest other ≡ other
unfolding two
two_other name rest other h =
    let x = word_at 0 rest in
    let y = word_at 17 rest in
    rw (same_length rest (spaced x ++ spaced y) (λ e. h (e ∙ length_two x y)))

pub one_other : (name rest : List ℕ) (other : Answer) → (length rest ≡ 17 → ⊥) → one name rest other ≡ other
unfolding one
one_other name rest other h =
    let x = word_at 0 rest in
    rw (same_length rest (spaced x) (λ e. h (e ∙ length_one x)))

module _ (line : List ℕ) where
  pub unreadable : (length line ≡ 37 → ⊥) → (length line ≡ 20 → ⊥) → (length line ≡ 21 → ⊥) → answer_to line ≡ Err Unreadable
  unfolding answer_to
  unreadable h i j =
      two_other (take 3 line) (drop 3 line) _ (λ e. h (omega (arith, length-drop 3 line)))
      ∙ one_other (take 3 line) (drop 3 line) _ (λ e. i (omega (arith, length-drop 3 line)))
      ∙ one_other (take 4 line) (drop 4 line) _ (λ e. j (omega (arith, length-drop 4 line)))

  pub unreadable_long : 63 < length line → answer_to line ≡ Err Unreadable
  unreadable_long h = unreadable (λ e. omega arith) (λ e. omega arith) (λ e. omega arith)

  pub of_37 : length line ≡ 37 → two (take 3 line) (drop 3 line) (Err Unreadable) ≡ answer_to line
  unfolding answer_to
  of_37 h =
      rw (
        one_other (take 4 line) (drop 4 line) (Err Unreadable) (λ e. omega (arith, length-drop 4 line)),
        one_other (take 3 line) (drop 3 line) (Err Unreadable) (λ e. omega (arith, length-drop 3 line)),
      )

  pub of_20 : length line ≡ 20 → one (take 3 line) (drop 3 line) (Err Unreadable) ≡ answer_to line
  unfolding answer_to
  of_20 h =
      rw (
        one_other (take 4 line) (drop 4 line) (Err Unreadable) (λ e. omega (arith, length-drop 4 line)),
        two_other (take 3 line) (drop 3 line) _ (λ e. omega (arith, length-drop 3 line)),
      )

  pub of_21 : length line ≡ 21 → one (take 4 line) (drop 4 line) (Err Unreadable) ≡ answer_to line
  unfolding answer_to
  of_21 h =
      rw (
        two_other (take 3 line) (drop 3 line) _ (λ e. omega (arith, length-drop 3 line)),
        one_other (take 3 line) (drop 3 line) _ (λ e. omega (arith, length-drop 3 line)),
      )

-- ---- the words on a line

-- the digits that stand behind the first i bytes and a space
digits_after : (front rest : List ℕ) (i x : ℕ) → length front ≡ i → word_at i (front ++ (spaced x ++ rest)) ≡ x % 2 ^ 64
digits_after front rest i x e =
    ap (λ (l : List ℕ). made 16 0 (take 16 (drop (suc i) l))) (sym (append_snoc front 32 (hex 16 x ++ rest)))
    ∙ ap (λ (l : List ℕ). made 16 0 (take 16 l)) (drop_at (front ++ (32 ∷ [])) (hex 16 x ++ rest) (suc i) (omega (arith, length-append front (32 ∷ []))))
    ∙ ap (made 16 0) (take_at (hex 16 x) rest 16 (length_digits 16 16 x))
    ∙ made_digits 16 (omega arith) (omega arith) 16 x

-- those at the end
last_digits : (front : List ℕ) (i x : ℕ) → length front ≡ i → word_at i (front ++ spaced x) ≡ x % 2 ^ 64
last_digits front i x e = rw (append-nil (spaced x)) at (digits_after front [] i x e)

pub two_reads : (name : List ℕ) (other : Answer) (x y : ℕ) → x < 2 ^ 64 → y < 2 ^ 64 → two name (spaced x ++ spaced y) other ≡ of_two name x y
unfolding two
two_reads name other x y h i =
    let rest = spaced x ++ spaced y in
    let p : word_at 0 rest ≡ x = digits_after [] (spaced y) 0 x refl ∙ mod-eq_of_lt h in
    let q : word_at 17 rest ≡ y = last_digits (spaced x) 17 y (length_one x) ∙ mod-eq_of_lt i in
    rw (p, q, same_refl rest)

pub one_reads : (name : List ℕ) (other : Answer) (x : ℕ) → x < 2 ^ 64 → one name (spaced x) other ≡ of_one name x
unfolding one
one_reads name other x h = rw (last_digits [] 0 x refl, mod-eq_of_lt h, same_refl (spaced x))

-- ---- a line that is not unreadable

-- the answer a, if it is not `refused 8`, is to one of the seven lines
abbrev pub Reads : List ℕ → Answer → Type 0
Reads line a = (a ≡ Err Unreadable → ⊥) → Line line

two_name : (name : List ℕ) (x y : ℕ) → x < 2 ^ 64 → y < 2 ^ 64 → Reads (name ++ (spaced x ++ spaced y)) (of_two name x y)
unfolding of_two
two_name name x y h i =
    let C : Answer → Type 0 = Reads (name ++ (spaced x ++ spaced y)) in
    by_test C (same name add) (λ t k. rw (same_true name add t) (adds x y h i))
    (λ t. by_test C (same name sub) (λ t k. rw (same_true name sub t) (subs x y h i))
    (λ t. by_test C (same name mul) (λ t k. rw (same_true name mul t) (muls x y h i))
    (λ t k. absurd (k refl))))

one_name : (name : List ℕ) (x : ℕ) → x < 2 ^ 64 → Reads (name ++ spaced x) (of_one name x)
unfolding of_one may_refuse
one_name name x h =
    let C : Answer → Type 0 = Reads (name ++ spaced x) in
    by_test C (same name neg) (λ t k. rw (same_true name neg t) (negs x h))
    (λ t. by_test C (same name half) (λ t k. rw (same_true name half t) (halves x h))
    (λ t. by_test C (same name inv) (λ t k. rw (same_true name inv t) (invs x h))
    (λ t. by_test C (same name root) (λ t k. rw (same_true name root t) (roots x h))
    (λ t k. absurd (k refl)))))

-- so is a line with a name of n bytes, where one that is left to the answer `other` is
module _ (n : ℕ) (line : List ℕ) {other : Answer} (f : Reads line other) where
  pub line_of_two : Reads line (two (take n line) (drop n line) other)
  unfolding two
  line_of_two =
      let name = take n line in
      let rest = drop n line in
      let x = word_at 0 rest in
      let y = word_at 17 rest in
      by_test (Reads line) (same rest (spaced x ++ spaced y))
      (λ t.
      let e = same_true rest (spaced x ++ spaced y) t in
      let p = ap (word_at 0) e ∙ digits_after [] (spaced y) 0 x refl in
      let q = ap (word_at 17) e ∙ last_digits (spaced x) 17 y (length_one x) in
      let s : name ++ (spaced x ++ spaced y) ≡ line = ap (λ (l : List ℕ). name ++ l) (sym e) ∙ take-append-drop n line in
      subst (λ (l : List ℕ). Reads l (of_two name x y)) s
      (two_name name x y (omega (arith, p)) (omega (arith, q))))
      (λ t. f)

  pub line_of_one : Reads line (one (take n line) (drop n line) other)
  unfolding one
  line_of_one =
      let name = take n line in
      let rest = drop n line in
      let x = word_at 0 rest in
      by_test (Reads line) (same rest (spaced x))
      (λ t.
      let e = same_true rest (spaced x) t in
      let p = ap (word_at 0) e ∙ last_digits [] 0 x refl in
      let s : name ++ spaced x ≡ line = ap (λ (l : List ℕ). name ++ l) (sym e) ∙ take-append-drop n line in
      subst (λ (l : List ℕ). Reads l (of_one name x)) s (one_name name x (omega (arith, p))))
      (λ t. f)
