-- Sums over lists: their bounds over the number of entries, and the steps of the loops that make them.
use Rattle.std.proofs.Common.{◌≡◌, ℕ, zero, suc, ◌+◌, ◌-◌, ◌*◌, ◌/◌, ◌%◌, ◌^◌, ◌<◌, ◌≤◌, List, [], ◌∷◌, map, length, get_or, take, drop, refl, ap, map-id, le_trans, le_refl, le_of_suc-le-suc, lt_of_le_of_lt, add-le-add, mul-le-mul_right, arith, lit<, lit≤, drop-cons, shr_lt}
use Rattle.std.proofs.lemmas.Grind.{common_steps}
use Rattle.std.proofs.lemmas.List.Recursion.{is_sum_by}
use Rattle.prime.specs.Modulus.{P}
use Rattle.prime.specs.Lists.{Each}
use Rattle.limbs.specs.Limbs.{largest}
use Rattle.limbs.proofs.Products.{product_below, product_most}
use Rattle.words.specs.Words.{Words}
use Rattle.sums.specs.Sums.{limit, total, products, low_sum, high_sum}

-- ---- bounds, over the number of entries

-- where f takes no entry above k, the sum of what it gives is at most k for each
sum_bound : (f : ℕ → ℕ) (Q : ℕ → Type 0) (k : ℕ) → ((x : ℕ) → Q x → f x ≤ k)
    → (ws : List ℕ) → Each Q ws → total (map f ws) ≤ length ws * k
unfolding total
sum_bound f Q k g [] h = omega arith
sum_bound f Q k g (w ∷ ws) h = omega (arith, g w h.0, sum_bound f Q k g ws h.1)

-- the exact sum of words
pub total_fits : (ws : List ℕ) → Words ws → length ws < 2 ^ 64 → total ws < 2 ^ 128
total_fits ws h k =
    rw (map-id ws)
    at (lt_of_le_of_lt (sum_bound (λ w. w) (λ w. w < 2 ^ 64) (2 ^ 64 - 1) (λ w l. omega arith) ws h) (product_below 64 k (lit< tt)))

-- the products of words
abbrev pub Products : List ℕ → Type 0
Products ps = Each (λ (p : ℕ). p ≤ largest 64) ps

pub each_product : (xs ys : List ℕ) → Words xs → Words ys → Products (products xs ys)
unfolding products
each_product [] [] h k = tt
each_product [] (y ∷ ys) h k = tt
each_product (x ∷ xs) [] h k = tt
each_product (x ∷ xs) (y ∷ ys) h k = (product_most 64 h.0 k.0, each_product xs ys h.1 k.1)

pub products_length : (xs ys : List ℕ) → length xs ≡ length ys → length (products xs ys) ≡ length xs
unfolding products
products_length [] [] h = refl
products_length [] (y ∷ ys) h = refl
products_length (x ∷ xs) [] h = omega arith
products_length (x ∷ xs) (y ∷ ys) h = ap suc (products_length xs ys (omega arith))

module _ (ps : List ℕ) (e : Products ps) where
  pub low_bound : low_sum ps ≤ length ps * (2 ^ 96 - 1)
  low_bound = sum_bound (λ p. p % 2 ^ 96) (λ p. p ≤ largest 64) (2 ^ 96 - 1) (λ p h. omega arith) ps e

  pub high_bound : high_sum ps ≤ length ps * (2 ^ 32 - 1)
  high_bound = sum_bound (λ p. p / 2 ^ 96) (λ p. p ≤ largest 64) (2 ^ 32 - 1) (λ p h. le_of_suc-le-suc (shr_lt 32 96 (lt_of_le_of_lt h (lit< tt)))) ps e

  -- so up to the limit no carry is lost
  pub low_fits : length ps ≤ limit → low_sum ps + P < 2 ^ 128
  low_fits h = lt_of_le_of_lt (add-le-add (le_trans low_bound (mul-le-mul_right (2 ^ 96 - 1) h)) (le_refl P)) (lit< tt)

  pub high_fits : length ps ≤ limit → high_sum ps ≤ P
  high_fits h = le_trans high_bound (le_trans (mul-le-mul_right (2 ^ 32 - 1) h) (lit≤ tt))

-- ---- the steps of the loops

-- one word more
pub total_more : (ws : List ℕ) (i : ℕ) → i < length ws → total (take (i + 1) ws) ≡ total (take i ws) + get_or ws i 0
unfolding total
total_more ws i h = grind (arith, common_steps, is_sum_by total (λ x. x) refl (λ _ _. refl))

-- a sum so far, s, and what is left from i on make the whole
pub total_step : (ws : List ℕ) (i s : ℕ) → s + total (drop i ws) ≡ total ws → i < length ws → {r : ℕ} → r ≡ s + get_or ws i 0 → r + total (drop (i + 1) ws) ≡ total ws
unfolding total
total_step ws i s e h f = grind (arith, drop-cons ws i 0 h)

-- one pair of two lists
product_at : (xs ys : List ℕ) (i : ℕ) → i < length xs → i < length ys → get_or (products xs ys) i 0 ≡ get_or xs i 0 * get_or ys i 0
unfolding products
product_at [] [] i h k = omega arith
product_at [] (y ∷ ys) i h k = omega arith
product_at (x ∷ xs) [] i h k = omega arith
product_at (x ∷ xs) (y ∷ ys) zero h k = refl
product_at (x ∷ xs) (y ∷ ys) (suc i) h k = product_at xs ys i (omega arith) (omega arith)

-- the sum of a part f of each entry: one entry more
part_more : (f : ℕ → ℕ) (ps : List ℕ) (i : ℕ) → i < length ps → total (map f (take (i + 1) ps)) ≡ total (map f (take i ps)) + f (get_or ps i 0)
unfolding total
part_more f ps i h = grind (arith, common_steps, is_sum_by (λ (l : List ℕ). total (map f l)) f refl (λ _ _. refl))

-- the same of each product: one pair more
pub part_at : (f : ℕ → ℕ) (xs ys : List ℕ) (i : ℕ) → length xs ≡ length ys → i < length xs
    → total (map f (take (i + 1) (products xs ys))) ≡ total (map f (take i (products xs ys))) + f (get_or xs i 0 * get_or ys i 0)
part_at f xs ys i e h = rw (← product_at xs ys i h (omega arith)) (part_more f (products xs ys) i (omega (arith, products_length xs ys e)))

-- the products of all pairs
pub all_products : (xs ys : List ℕ) (n : ℕ) → length xs ≡ length ys → length xs ≤ n → take n (products xs ys) ≡ products xs ys
all_products xs ys n e h = grind (arith, common_steps, products_length)
