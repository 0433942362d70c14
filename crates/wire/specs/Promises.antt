-- The promises of the contracts: refusal, index, and the lent buffer at exit.
use Rattle.std.specs.Prelude.{◌≡◌, cond, List, ℕ, ◌==◌, length}
use Rattle.answers.specs.Answers.{Coded}
use Rattle.answers.specs.Answers.{coded_refusal, index_of, kept}
use Rattle.wire.specs.Wire.{encoded, groups, first_bad}
use Rattle.wire.specs.Refusals.{sizes, reading}

-- The words ws were to be written into a buffer of bytes.
pub record Encoded (ws before after : List ℕ) (r : Coded) : Type 0 where
  pub refusal : coded_refusal r ≡ sizes (length ws) (length before)
  pub index : index_of r ≡ 0
  pub bytes : after ≡ kept (sizes (length ws) (length before)) (encoded ws) before

-- The bytes bs were to be read into a buffer of words.
pub record Decoded (bs before after : List ℕ) (r : Coded) : Type 0 where
  pub refusal : coded_refusal r ≡ reading (length before) bs
  pub index : index_of r ≡ cond (reading (length before) bs == 1) (first_bad (groups (length before) bs)) 0
  pub words : after ≡ kept (reading (length before) bs) (groups (length before) bs) before
