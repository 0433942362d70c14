-- The whole open line l beside the desk d, which keeps its first 64 bytes: they are answered as l is, since a readable line is shorter.
-- So what is written for pieces is what answers all of them joined behind l.
use mathlib.Core.Path.{◌≡◌, refl, sym, ap, ◌∙◌}
use mathlib.Core.Bool.{Bool, true, false, cond}
use mathlib.Core.List.{List, [], ◌∷◌, ◌++◌, append_assoc, flatten}
use Prim.Native.Nat.{ℕ, ◌<◌, ◌≤◌}
use native.Mathlib.Omega.{arith}
use borrow.Author.Tests.{ne_eqb}
use lib.Dec.{eqb, ltb}
use lib.ListN.{length, take, length-append, length-take}
use lib.Seq.{length-take-le, take_all, take-append-le}
use Rattle.prime.proofs.Choice.{by_lt}
use Rattle.desk_line.specs.declared.desk.Desk.{Desk}
use Rattle.desk_line.specs.Replies.{answer_to, reply, replies_from}
use Rattle.desk_line.specs.Pieces.{fresh, step, after, written, last, spoken}
use Rattle.desk_line.proofs.Cutting.{after_append, written_append}
use Rattle.desk_line.proofs.Shapes.{unreadable_long}

answer_front : (l : List ℕ) → answer_to (take 64 l) ≡ answer_to l
answer_front l =
    by_lt (λ (n : ℕ). answer_to (take 64 l) ≡ answer_to l) (length l) 64 {u = 0} {v = 0}
    (λ h. ap answer_to (take_all 64 l (omega arith)))
    (λ h. unreadable_long (take 64 l) (omega (arith, length-take-le 64 l h)) ∙ sym (unreadable_long l h))

-- ---- what the desk keeps of the open line

pub record Keeps (d : Desk) (l : List ℕ) : Type 0 where
  pub front : d ≡ take 64 l

pub keeps_fresh : Keeps fresh []
keeps_fresh = record { front = refl }

-- the desk after a byte that ends no line
longer : Desk → ℕ → Desk
longer d b = cond (ltb (length d) 64) (d ++ (b ∷ [])) d

module _ {d : Desk} {l : List ℕ} (k : Keeps d l) where
  reply_kept : reply d ≡ reply l
  reply_kept = rw (k.front, answer_front l)

  keeps_longer : (b : ℕ) → Keeps (longer d b) (l ++ (b ∷ []))
  unfolding longer
  keeps_longer b =
      by_lt (λ (e : Desk). Keeps e (l ++ (b ∷ []))) (length d) 64
      (λ h.
      let n : length l < 64 = omega (arith, ap length k.front, length-take 64 l) in
      record {
        front =
            ap (λ (t : List ℕ). t ++ (b ∷ [])) (k.front ∙ take_all 64 l (omega arith))
            ∙ sym (take_all 64 (l ++ (b ∷ [])) (omega (arith, length-append l (b ∷ []))));
      })
      (λ h.
      let n : 64 ≤ length l = omega (arith, ap length k.front, length-take 64 l) in
      record { front = k.front ∙ sym (take-append-le 64 l (b ∷ []) n) })

  pub keeps_byte : (b : ℕ) → (b ≡ 10 → ⊥) → Keeps (step d b) (l ++ (b ∷ []))
  unfolding step longer
  keeps_byte b q = rw (ne_eqb b 10 q) (keeps_longer b)

-- ---- all that is written for an input that comes as one piece

ended : Desk → List ℕ → List ℕ
ended d input = written d input ++ last (after d input)

spoken_ended : (d : Desk) (pieces : List (List ℕ)) → spoken d pieces ≡ ended d (flatten pieces)
unfolding spoken ended flatten written after
spoken_ended d [] = refl
spoken_ended d (p ∷ pieces) = rw (written_append, after_append, append_assoc, spoken_ended (after d p) pieces)

last_kept : (d : Desk) (l : List ℕ) → Keeps d l → last d ≡ replies_from l []
unfolding last replies_from
last_kept d [] k = rw k.front refl
last_kept d (b ∷ l) k =
    let n : length d ≡ 0 → ⊥ = λ e. omega (arith, ap length k.front, length-take 64 (b ∷ l)) in
    rw (ne_eqb (length d) 0 n) (reply_kept k)

replies_byte : (l : List ℕ) (b : ℕ) (input : List ℕ)
    → replies_from l (b ∷ input) ≡ cond (eqb b 10) (reply l ++ replies_from [] input) (replies_from (l ++ (b ∷ [])) input)
unfolding replies_from
replies_byte [] b input = refl
replies_byte (c ∷ l) b input = refl

-- t says whether the byte ended a line, to which r is the reply
ended_byte : (t : Bool) (d e : Desk) (input r : List ℕ) {u v : List ℕ} → ended d input ≡ u → ended e input ≡ v
    → (cond t r [] ++ written (cond t d e) input) ++ last (after (cond t d e) input) ≡ cond t (r ++ u) v
unfolding ended
ended_byte true d e input r p q = append_assoc r (written d input) (last (after d input)) ∙ ap (λ (l : List ℕ). r ++ l) p
ended_byte false d e input r p q = q

ended_kept : (d : Desk) (l input : List ℕ) → Keeps d l → ended d input ≡ replies_from l input
unfolding ended written after step longer
ended_kept d l [] k = last_kept d l k
ended_kept d l (b ∷ input) k =
    rw (replies_byte l b input, ← reply_kept k)
    (ended_byte (eqb b 10) fresh (longer d b) input (reply d)
    (ended_kept fresh [] input keeps_fresh)
    (ended_kept (longer d b) (l ++ (b ∷ [])) input (keeps_longer k b)))

pub spoken_kept : (d : Desk) (l : List ℕ) (pieces : List (List ℕ)) → Keeps d l → spoken d pieces ≡ replies_from l (flatten pieces)
spoken_kept d l pieces k = spoken_ended d pieces ∙ ended_kept d l (flatten pieces) k
