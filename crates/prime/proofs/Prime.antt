-- P is a prime, by its certificate and those of the factors of P - 1. Each factor but 2 is itself 2^k + 1.
use mathlib.Core.List.{List, [], ◌++◌}
use Prim.Native.Nat.{ℕ, zero, suc, ◌-◌, ◌^◌}
use lib.Dec.{T, lit<}
use lib.ListN.{replicate}
use lib.Pow.{pow_pos}
use Rattle.prime.specs.Modulus.{P, generator}
use Rattle.prime.specs.Lists.{Each}
use Rattle.prime.proofs.Fields.{Field, Generates}
use Rattle.prime.proofs.Certificate.{pratt, odd_factors, factors}
use Rattle.prime.proofs.Generator.{certified, field_of}

two : Field 2
unfolding pratt
two = field_of 1 1 (lit< tt) (certified 1 1 [] (lit< tt) tt tt)

twos : (k : ℕ) (qs : List ℕ) → Each Field qs → Each Field (replicate k 2 ++ qs)
twos zero qs fields = fields
twos (suc k) qs fields = (two, twos k qs fields)

-- 2^k + 1 is a prime if g generates modulo it
one_more : (k g : ℕ) → T (pratt (suc (2 ^ k)) g 1 (replicate k 2 ++ [])) → Field (suc (2 ^ k))
one_more k g t = field_of (2 ^ k) g (pow_pos k) (certified (2 ^ k) g (replicate k 2 ++ []) (pow_pos k) t (twos k [] tt))

-- 7 generates modulo P
pub generates : Generates (P - 1) generator
unfolding pratt
generates =
    certified (P - 1) generator factors (lit< tt) tt
    (twos 32 odd_factors (one_more 1 2 tt, (one_more 2 2 tt, (one_more 4 3 tt, (one_more 8 3 tt, (one_more 16 3 tt, tt))))))

-- each element that is not zero has an inverse
pub field : Field P
field = field_of (P - 1) generator (lit< tt) generates
