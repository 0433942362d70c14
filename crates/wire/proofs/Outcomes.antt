-- What the promise of encoding asks of an answer, by the tests that led to it.
use mathlib.Core.Path.{◌≡◌}
use mathlib.Core.List.{List}
use Prim.Native.Nat.{ℕ, ◌*◌, ◌<◌, ◌≤◌}
use native.Mathlib.Omega.{arith}
use Rattle.std.proofs.lemmas.Bool.Decides.{nat_tests}
use lib.ListN.{length}
use Rattle.answers.specs.Answers.{Coded, coded_refusal, index_of}
use Rattle.wire.specs.Wire.{encoded}
use Rattle.wire.specs.Refusals.{limit, sizes}
use Rattle.wire.specs.Promises.{Encoded}

module _ (n m : ℕ) where
  pub too_many : limit < n → sizes n m ≡ 5
  too_many h = grind (arith, nat_tests)

  pub wrong_buffer : n ≤ limit → (m ≡ 8 * n → ⊥) → sizes n m ≡ 6
  wrong_buffer h e = grind (arith, nat_tests)

  pub fitting : n ≤ limit → m ≡ 8 * n → sizes n m ≡ 0
  fitting h e = grind (arith, nat_tests)

-- of the words ws, written into a buffer
module _ {ws before after : List ℕ} {r : Coded} where
  pub encode_many : limit < length ws
      → coded_refusal r ≡ 5 → index_of r ≡ 0 → after ≡ before → Encoded ws before after r
  encode_many h f i a = record { refusal = grind (arith, nat_tests); index = i; bytes = grind (arith, nat_tests) }

  pub encode_wrong : length ws ≤ limit → (length before ≡ 8 * length ws → ⊥)
      → coded_refusal r ≡ 6 → index_of r ≡ 0 → after ≡ before → Encoded ws before after r
  encode_wrong h e f i a = record { refusal = grind (arith, nat_tests); index = i; bytes = grind (arith, nat_tests) }

  pub encode_done : length ws ≤ limit → length before ≡ 8 * length ws
      → coded_refusal r ≡ 0 → index_of r ≡ 0 → after ≡ encoded ws → Encoded ws before after r
  encode_done h e f i a = record { refusal = grind (arith, nat_tests); index = i; bytes = grind (arith, nat_tests) }
