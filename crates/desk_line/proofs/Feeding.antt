-- Feeding a piece byte by byte: what stands in the lent buffer, and what is kept, after its first i bytes.
-- Here each byte is kept at once. `feed` keeps the bytes of a line together: Unkept says what holds in between, and rests on these laws. (`byte_kept` is for
-- whoever keeps them one by one; nothing cites it.)
use mathlib.Core.Path.{◌≡◌, refl, sym, ap, ◌∙◌}
use mathlib.Core.Bool.{cond}
use mathlib.Core.List.{List, [], ◌∷◌, ◌++◌, append_assoc, append-nil}
use Prim.Native.Nat.{ℕ, ◌+◌, ◌*◌, ◌<◌, ◌≤◌}
use native.Mathlib.Numerals.{add-one}
use native.Mathlib.Omega.{arith}
use borrow.Author.Tests.{eq-eqb, ne_eqb}
use lib.Dec.{eqb}
use lib.ListN.{length, get_or, take, drop, length-append, length-take}
use lib.Seq.{take-suc, take_at, drop_at, drop-drop}
use Rattle.std.proofs.lemmas.List.{get_or-take}
use borrow.Rule.Slice.PartMut.{put_mid}
use Rattle.prime.proofs.Choice.{by_lt}
use Rattle.desk_line.specs.declared.desk.Desk.{Desk}
use Rattle.desk_line.specs.Replies.{answer_to, reply}
use Rattle.desk_line.specs.Pieces.{step, after, written}
use Rattle.desk_line.proofs.Cutting.{after_append, written_append, text_length}

-- after i bytes the desk d has become e, and n bytes stand in front of the buffer, which was lent as `before`
pub record Feeding (d : Desk) (piece before : List ℕ) (i : ℕ) (e : Desk) (n : ℕ) (out : List ℕ) : Type 0 where
  pub desk : e ≡ after d (take i piece)
  pub count : n ≡ length (written d (take i piece))
  pub bytes : out ≡ written d (take i piece) ++ drop n before
  pub room : n ≤ 17 * i

pub feeding_none : (d : Desk) (piece before : List ℕ) → Feeding d piece before 0 d 0 before
unfolding after written
feeding_none d piece before = record { desk = refl; count = refl; bytes = refl; room = omega arith }

-- the next byte is that of the first t bytes
module _ (t : ℕ) {d e : Desk} {piece before out : List ℕ} {i n : ℕ} (h : i < length (take t piece)) (f : Feeding d piece before i e n out) where
  pub next : take (i + 1) piece ≡ take i piece ++ (get_or (take t piece) i 0 ∷ [])
  next =
      let l : i < t = omega (arith, length-take t piece) in
      rw (add-one i, take-suc piece i 0 (omega (arith, length-take t piece)), get_or-take t piece i 0 l) refl

  desk_next : step e (get_or (take t piece) i 0) ≡ after d (take (i + 1) piece)
  unfolding after
  desk_next = rw (next, after_append, f.desk) refl

  written_next : written d (take (i + 1) piece) ≡ written d (take i piece) ++ cond (eqb (get_or (take t piece) i 0) 10) (reply e) []
  unfolding written
  written_next = rw (next, written_append, append-nil, f.desk) refl

  -- it ends the line, whose reply is put behind the others
  pub line_fed : {x : Desk} {r : List ℕ} {m k : ℕ} → get_or (take t piece) i 0 ≡ 10 → x ≡ [] → r ≡ reply e → m ≡ length r → k ≡ length r
      → Feeding d piece before (i + 1) x (n + m) (put_mid n k out r)
  unfolding step
  line_fed {r = r} {m} {k} q b s c j =
      let w = written d (take i piece) in
      let a : take n out ≡ w = rw f.bytes (take_at w (drop n before) n (sym f.count)) in
      let g : drop n out ≡ drop n before = rw f.bytes (drop_at w (drop n before) n (sym f.count)) in
      let p : written d (take (i + 1) piece) ≡ w ++ r = rw (written_next, eq-eqb _ _ q, s) refl in
      record {
        desk = b ∙ (rw (eq-eqb _ _ q) at desk_next);
        count = rw (p, length-append) (omega arith);
        bytes = rw (p, append_assoc, a, j, c, g, drop-drop) refl;
        room = omega (arith, ap length s, text_length (answer_to e));
      }

  -- it does not, and nothing is written
  pub byte_fed : {x : Desk} → (get_or (take t piece) i 0 ≡ 10 → ⊥) → x ≡ step e (get_or (take t piece) i 0) → Feeding d piece before (i + 1) x n out
  byte_fed q s =
      let w : written d (take (i + 1) piece) ≡ written d (take i piece) = rw (written_next, ne_eqb _ _ q, append-nil) refl in
      record { desk = s ∙ desk_next; count = rw w f.count; bytes = rw w f.bytes; room = omega arith }

  -- it is kept while there is room
  pub byte_kept : {x : Desk} → (get_or (take t piece) i 0 ≡ 10 → ⊥) → (length e < 64 → x ≡ e ++ (get_or (take t piece) i 0 ∷ [])) → (64 ≤ length e → x ≡ e)
      → Feeding d piece before (i + 1) x n out
  unfolding step
  byte_kept {x} q k l =
      byte_fed q (rw (ne_eqb _ _ q) (by_lt (λ (y : Desk). x ≡ y) (length e) 64 {u = e ++ (get_or (take t piece) i 0 ∷ [])} {v = e} k l))
