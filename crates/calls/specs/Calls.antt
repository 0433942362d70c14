-- The calls that demand 3 covers, in document 01's order, and what they give. Excepted are the checked readers and the raw word.
use Rattle.std.specs.Prelude.{Bool, cond, List, [], ◌∷◌, ℕ, ℤ}
use Rattle.std.specs.Int.{w64}
use Rattle.std.proofs.Common.{SFits}
use Rattle.std.specs.declared.cmp.Ordering.{Ordering}
use Rattle.sequence.specs.Outcomes.{Outcome}

-- A call names its words by their places among starting words and earlier results. Bit counts, exponents, signed numbers and what a lent buffer held
-- are written out in the call.
pub data Call : Type 0 where
  add : (i j : ℕ) → Call
  sub : (i j : ℕ) → Call
  neg : (i : ℕ) → Call
  reduce : (lo hi : ℕ) → Call
  mul : (i j : ℕ) → Call
  square : (i : ℕ) → Call
  halve : (i : ℕ) → Call
  sum : (is : List ℕ) → Call
  dot : (is js : List ℕ) → Call
  from_i64 : (z : ℤ) → SFits w64 z → Call
  from_limbs : (lo hi : ℕ) → Call
  shift_up : (i exponent : ℕ) → Call
  shift_down : (i exponent : ℕ) → Call
  inverse : (i : ℕ) → Call
  square_root : (i : ℕ) → Call
  seventh_root : (i : ℕ) → Call
  generator : (bits : ℕ) → Call
  equal : (i j : ℕ) → Call
  compare : (i j : ℕ) → Call
  is_zero : (i : ℕ) → Call
  slot : (i bits : ℕ) → Call
  encode : (is before : List ℕ) → Call
  canonical_form : (i : ℕ) → Call

-- What a call says beside the words that it leaves. A refusal's number is 0 for none.
pub data Says : Type 0 where
  refusal : (number : ℕ) → Says
  figure : (number seen : ℕ) → Says
  truth : Bool → Says
  ordering : Ordering → Says
  buffer : (number index : ℕ) (bytes : List ℕ) → Says

-- What an operation of document 01 gives: none leaves a number that is no element.
abbrev pub outcome : Says → List ℕ → Outcome Says ℕ
outcome s ws = record { says = s; words = ws; numbers = [] }

-- A word.
abbrev pub word : ℕ → Outcome Says ℕ
word w = outcome (refusal 0) (w ∷ [])

-- Where the test t holds the word w; elsewhere the refusal n, which leaves the word 0.
abbrev pub answered : Bool → ℕ → ℕ → Outcome Says ℕ
answered t n w = outcome (refusal (cond t 0 n)) (cond t w 0 ∷ [])

-- The same, where the word is also seen as it stands.
abbrev pub figured : Bool → ℕ → ℕ → Outcome Says ℕ
figured t n w = outcome (figure (cond t 0 n) (cond t w 0)) (cond t w 0 ∷ [])

-- No word.
abbrev pub said : Says → Outcome Says ℕ
said s = outcome s []
