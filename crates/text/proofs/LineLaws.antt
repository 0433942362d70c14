-- Bytes that are put behind a line: what its array holds then. Of its N bytes, xs, the first n are the line, and zeros stand behind.
use mathlib.Core.Path.{◌≡◌, sym, ap, ◌∙◌}
use mathlib.Core.List.{List, [], ◌∷◌, ◌++◌}
use Prim.Native.Nat.{ℕ, ◌+◌, ◌-◌, ◌<◌, ◌≤◌, min}
use native.Mathlib.Omega.{arith}
use lib.ListN.{length, take, drop, set, replicate, length-append, length-take}
use lib.Seq.{drop-drop, drop-set-lt, length-take-le, take_all, take_at, take-append-add}
use borrow.Rule.Slice.PartMut.{put_mid}
use Rattle.std.proofs.lemmas.List.{take_min, take_more_set, drop-replicate}
use Rattle.std.proofs.lemmas.Slice.{take-put_mid, drop-put_mid}

-- Three texts that find room are put behind each other, from an empty line on.
pub three_joined : (N : ℕ) (x y z : List ℕ) {r a b c : List ℕ} → length x + length y + length z ≤ N
    → r ≡ [] → a ≡ take N (r ++ x) → b ≡ take N (a ++ y) → c ≡ take N (b ++ z) → c ≡ x ++ y ++ z
three_joined N x y z {r} {a} {b} {c} h e p q s =
    let first : a ≡ x = p ∙ ap (λ (l : List ℕ). take N (l ++ x)) e ∙ take_all N x (omega arith) in
    let second : b ≡ x ++ y = q ∙ ap (λ (l : List ℕ). take N (l ++ y)) first ∙ take_all N (x ++ y) (omega (arith, length-append x y)) in
    s ∙ ap (λ (l : List ℕ). take N (l ++ z)) second ∙ take_all N (x ++ y ++ z) (omega (arith, length-append (x ++ y) z, length-append x y))

taken_twice : (a b c : ℕ) → a - b - c ≡ a - (b + c)
taken_twice a b c = omega arith

-- One byte is put behind, or finds no room.
module _ (N n b : ℕ) (xs : List ℕ) (long : length xs ≡ N) where
  pub pushed : n < N → take (n + 1) (set xs n b) ≡ take N (take n xs ++ (b ∷ []))
  pushed h =
      let front = length-take-le n xs (omega arith) in
      take_more_set xs n b (omega arith) ∙ sym (take_all N (take n xs ++ (b ∷ [])) (omega (arith, front, length-append (take n xs) (b ∷ []))))

  pub one_zero_less : drop n xs ≡ replicate (N - n) 0 → drop (n + 1) (set xs n b) ≡ replicate (N - (n + 1)) 0
  one_zero_less zeros =
      drop-set-lt (n + 1) xs n b (omega arith) ∙ sym (drop-drop 1 n xs) ∙ ap (drop 1) zeros ∙ drop-replicate 1 (N - n) 0 ∙ ap (λ (m : ℕ). replicate m 0) (taken_twice N n 1)

  pub full : N ≤ n → n ≤ N → take n xs ≡ take N (take n xs ++ (b ∷ []))
  full h r = sym (take_at (take n xs) (b ∷ []) N (omega (arith, length-take-le n xs (omega arith))))

-- k bytes are put behind, and ys is what stands in their place.
module _ (N n k : ℕ) (xs bytes ys : List ℕ) (room : n ≤ N) (long : length xs ≡ N) (zeros : drop n xs ≡ replicate (N - n) 0)
    (few : k ≡ min (N - n) (length bytes)) (put : ys ≡ take k bytes) where
  places : length ys ≡ k
  places = omega (arith, ap length put, length-take k bytes)

  -- the line has as many of them as find room
  pub extended : take (n + k) (put_mid n (n + k - n) xs ys) ≡ take N (take n xs ++ bytes)
  extended =
      let front : length (take n xs) + (N - n) ≡ N = omega (arith, length-take-le n xs (omega arith)) in
      take-put_mid n (n + k - n) xs ys (n + k) (omega (arith, places)) (omega arith)
      ∙ ap (λ (l : List ℕ). take n xs ++ l) (put ∙ ap (λ (m : ℕ). take m bytes) few ∙ take_min (N - n) bytes)
      ∙ sym (take-append-add (take n xs) bytes (N - n))
      ∙ ap (λ (m : ℕ). take m (take n xs ++ bytes)) front

  -- and zeros stand behind it
  pub zeros_behind : drop (n + k) (put_mid n (n + k - n) xs ys) ≡ replicate (N - (n + k)) 0
  zeros_behind =
      drop-put_mid n (n + k - n) xs ys (n + k) (omega arith) (omega arith) (omega (arith, places))
      ∙ sym (drop-drop k n xs) ∙ ap (drop k) zeros ∙ drop-replicate k (N - n) 0 ∙ ap (λ (m : ℕ). replicate m 0) (taken_twice N n k)
