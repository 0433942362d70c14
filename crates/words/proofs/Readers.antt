-- What the checked readers promise, from the tests that they make: taken in range, refused out of it.
use Rattle.std.proofs.Common.{◌≡◌, ℕ, ◌-◌, ◌^◌, ◌<◌, ◌≤◌, true, false, ℤ, pos, negsuc, refl, ap, ◌∙◌, w64, SFits, to_z, of_z, le-ltb, lt-ltb}
use lib.Signed.{lt_z}
use mir.ValLaws.{to_z-of_z}
use Rattle.prime.specs.Modulus.{P}
use Rattle.answers.specs.declared.refusals.Refusal.TheVariants.{OutOfRange}
use Rattle.std.specs.Prelude.{Ok, Err}
use Rattle.answers.proofs.Stands.{granted, refused, itself}
use Rattle.words.specs.Promises.{CheckedU64, CheckedI64}
use Rattle.words.specs.Words.{from_i64_word, bound}
use Rattle.words.proofs.Signed.{from_i64_stands, below_range, above_range, within_range}

pub taken : {x : ℕ} → x < P → x < 2 ^ 64 → CheckedU64 x (Ok x)
taken {x} h f = granted _ (lt-ltb x P h) refl (itself x f)

pub not_taken : {x : ℕ} → P ≤ x → CheckedU64 x (Err OutOfRange)
not_taken {x} h = refused _ OutOfRange (le-ltb x P h)

pub too_low : {z : ℤ} → SFits w64 z → lt_z (to_z w64 (of_z w64 z)) (negsuc (bound - 1)) ≡ true → CheckedI64 z (Err OutOfRange)
too_low {z} f t = refused _ OutOfRange (below_range z f t)

pub too_high : {z : ℤ} → SFits w64 z → lt_z (pos bound) (to_z w64 (of_z w64 z)) ≡ true → CheckedI64 z (Err OutOfRange)
too_high {z} f t = refused _ OutOfRange (above_range z f t)

pub in_between : {z : ℤ} {r : ℕ} → SFits w64 z → lt_z (to_z w64 (of_z w64 z)) (negsuc (bound - 1)) ≡ false → lt_z (pos bound) (to_z w64 (of_z w64 z)) ≡ false
    → r ≡ from_i64_word (to_z w64 (of_z w64 z)) → CheckedI64 z (Ok r)
in_between {z} f s t e = granted _ (within_range z f s t) (e ∙ ap from_i64_word (to_z-of_z w64 z f)) (from_i64_stands z f)
