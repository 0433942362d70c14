-- 01, "Words on the wire".
use Rattle.std.specs.Prelude.{cond, List, [], ◌∷◌, ◌++◌, ℕ, zero, suc, ◌+◌, ◌*◌, ◌/◌, ◌%◌, nat_lt, take, drop}
use Rattle.prime.specs.Modulus.{P}

-- The k low bytes of n, "little-endian".
unfoldable pub bytes_of : ℕ → ℕ → List ℕ
bytes_of zero n = []
bytes_of (suc k) n = n % 256 ∷ bytes_of k (n / 256)

-- The number that bytes make.
unfoldable pub number_of : List ℕ → ℕ
number_of [] = 0
number_of (b ∷ bs) = b + 256 * number_of bs

-- "An element is 8 bytes, little-endian, canonical."
abbrev pub element_bytes : ℕ → List ℕ
element_bytes x = bytes_of 8 (x % P)

-- Words, "8 bytes each", one after the other.
unfoldable pub encoded : List ℕ → List ℕ
encoded [] = []
encoded (x ∷ xs) = element_bytes x ++ encoded xs

-- The first n groups of 8 bytes, each as the number that it makes.
unfoldable pub groups : ℕ → List ℕ → List ℕ
groups zero bs = []
groups (suc n) bs = number_of (take 8 bs) ∷ groups n (drop 8 bs)

-- "the index of the first such group", one that is P or more; the number of groups if there is none.
unfoldable pub first_bad : List ℕ → ℕ
first_bad [] = 0
first_bad (g ∷ gs) = cond (nat_lt g P) (suc (first_bad gs)) 0
