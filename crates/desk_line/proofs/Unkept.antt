-- Feeding a piece line by line, as `feed` does: a byte of the open line is not kept until that line ends, or all that is taken of the piece is passed.
-- After each byte the lent buffer holds the same as in Feeding, where each byte is kept at once.
use mathlib.Core.Path.{◌≡◌, refl, sym, ap, subst, ◌∙◌}
use mathlib.Core.List.{List, [], ◌∷◌, ◌++◌, append_assoc, append-nil}
use Prim.Native.Nat.{ℕ, ◌+◌, ◌*◌, ◌/◌, ◌<◌, ◌≤◌, min}
use native.Mathlib.Omega.{arith}
use lib.ListN.{length, get_or, take, drop, length-take, drop_of_length-le}
use lib.Seq.{take_all}
use Rattle.std.proofs.lemmas.List.{drop-append-le}
use borrow.Rule.Slice.PartMut.{put_mid}
use Rattle.std.specs.List.{between}
use Rattle.std.proofs.lemmas.Slice.{between_is}
use Rattle.desk_line.specs.declared.desk.Desk.{Desk}
use Rattle.desk_line.specs.Replies.{reply}
use Rattle.desk_line.specs.Pieces.{after, written}
use Rattle.desk_line.specs.Promises.{Feeds}
use Rattle.desk_line.proofs.Feeding.{Feeding, feeding_none, next, line_fed, byte_fed}
use Rattle.desk_line.proofs.OpenLine.{Keeps, keeps_byte}

-- After i bytes of a piece that the desk d was fed, the desk in memory is e, behind whose line those of the i bytes from `begun` on are not put yet: the first 64
-- of both are what d keeps by then. n bytes stand in front of the buffer, which was lent as `before`. That e has 64 bytes at most is known where bytes are
-- put behind its line (`fitted` of `extend`).
pub record Unkept (d : Desk) (piece before : List ℕ) (i begun : ℕ) (e : Desk) (n : ℕ) (out : List ℕ) : Type 0 where
  pub from : begun ≤ i
  pub kept : length e ≤ 64 → Keeps (after d (take i piece)) (e ++ drop begun (take i piece))
  pub count : n ≡ length (written d (take i piece))
  pub bytes : out ≡ written d (take i piece) ++ drop n before
  pub room : n ≤ 17 * i

-- What Feeding says of the same bytes, with the desk that has kept them all; and back, from what is kept.
pub unkept_fed : {d e : Desk} {piece before out : List ℕ} {i begun n : ℕ} → Unkept d piece before i begun e n out
    → Feeding d piece before i (after d (take i piece)) n out
unkept_fed f = record { desk = refl; count = f.count; bytes = f.bytes; room = f.room }

fed_unkept : {d e x : Desk} {piece before out : List ℕ} {i begun n : ℕ} → begun ≤ i
    → (length e ≤ 64 → Keeps (after d (take i piece)) (e ++ drop begun (take i piece))) → Feeding d piece before i x n out → Unkept d piece before i begun e n out
fed_unkept b k g = record { from = b; kept = k; count = g.count; bytes = g.bytes; room = g.room }

pub unkept_none : (d : Desk) (piece before : List ℕ) → Unkept d piece before 0 0 d 0 before
unfolding after
unkept_none d piece before =
    fed_unkept (omega arith) (λ h. record { front = sym (ap (take 64) (append-nil d) ∙ take_all 64 d h) }) (feeding_none d piece before)

module _ {d e : Desk} {piece before out : List ℕ} {i begun n : ℕ} (f : Unkept d piece before i begun e n out) where
  -- what is kept once the bytes from `begun` on are put behind
  pub kept_now : {s x : Desk} → s ≡ e → length s ≤ 64 → x ≡ take 64 (s ++ between begun i piece) → x ≡ after d (take i piece)
  kept_now v h p =
      p ∙ ap (λ (l : List ℕ). take 64 (l ++ between begun i piece)) v ∙ ap (λ (l : List ℕ). take 64 (e ++ l)) (between_is piece begun i)
      ∙ sym (f.kept (subst (λ (l : List ℕ). length l ≤ 64) v h)).front

module _ (t : ℕ) {d e : Desk} {piece before out : List ℕ} {i begun n : ℕ} (f : Unkept d piece before i begun e n out) where
  module _ (h : i < length (take t piece)) where
    -- the next byte, of the first t, ends the line, whose reply is put behind the others
    pub line_unkept : {s x z : Desk} {r : List ℕ} {m k : ℕ} → get_or (take t piece) i 0 ≡ 10 → s ≡ e → length s ≤ 64 → x ≡ take 64 (s ++ between begun i piece)
        → r ≡ reply x → m ≡ length r → k ≡ length r → z ≡ [] → Unkept d piece before (i + 1) (i + 1) z (n + m) (put_mid n k out r)
    line_unkept {z = z} q v u o y c j empty =
        let g = line_fed t h (unkept_fed f) q empty (y ∙ ap reply (kept_now f v u o)) c j in
        let past : drop (i + 1) (take (i + 1) piece) ≡ [] = drop_of_length-le (take (i + 1) piece) (omega (arith, length-take (i + 1) piece)) in
        fed_unkept (omega arith) (λ _. record { front = sym g.desk ∙ empty ∙ ap (take 64) (sym (ap (λ (l : List ℕ). l ++ drop (i + 1) (take (i + 1) piece)) empty ∙ past)) }) g

    -- it does not: it is one more of those that are not kept yet, and nothing is written
    pub byte_unkept : (get_or (take t piece) i 0 ≡ 10 → ⊥) → Unkept d piece before (i + 1) begun e n out
    byte_unkept q =
        let b = get_or (take t piece) i 0 in
        let g = byte_fed t h (unkept_fed f) q refl in
        let l : e ++ drop begun (take i piece) ++ (b ∷ []) ≡ e ++ drop begun (take (i + 1) piece) =
        append_assoc e (drop begun (take i piece)) (b ∷ [])
        ∙ ap (λ (m : List ℕ). e ++ m) (sym (drop-append-le begun (take i piece) (b ∷ []) (omega (arith, f.from, length-take i piece, length-take t piece))) ∙ ap (drop begun) (sym (next t h (unkept_fed f)))) in
        fed_unkept (omega (arith, f.from))
        (λ v. subst (λ (m : List ℕ). Keeps (after d (take (i + 1) piece)) m) l (subst (λ (x : Desk). Keeps x (e ++ drop begun (take i piece) ++ (b ∷ []))) g.desk (keeps_byte (f.kept v) b q)))
        g

  -- at the end of what is taken
  pub all_fed : {s x : Desk} → t ≡ min (length piece) (length before / 17) → i ≡ t → s ≡ e → length s ≤ 64 → x ≡ take 64 (s ++ between begun t piece)
      → Feeds d piece before x out (record { taken = t; written = n })
  all_fed {s} {x} m q v h p = record {
    taken = m;
    desk = kept_now f v h (p ∙ ap (λ (j : ℕ). take 64 (s ++ between begun j piece)) (sym q)) ∙ ap (λ (j : ℕ). after d (take j piece)) q;
    count = f.count ∙ ap (λ (j : ℕ). length (written d (take j piece))) q;
    bytes = f.bytes ∙ ap (λ (j : ℕ). written d (take j piece) ++ drop n before) q;
  }
