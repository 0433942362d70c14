-- The papers' number, word and index for each case of an answer, and what a refusal leaves in a lent buffer.
use Rattle.std.specs.Prelude.{List, ℕ, zero, suc, Result, Ok, Err}
use Rattle.answers.specs.declared.refusals.Refusal.{Refusal}
use Rattle.answers.specs.declared.refusals.Refusal.TheVariants.{OutOfRange, InverseOfZero, NoSquareRoot, LengthsDiffer, TooMany, WrongLength, Above32, Unreadable}
use Rattle.answers.specs.declared.refusals.RefusedAt.{RefusedAt}

-- 01, "Refusal numbers".
abbrev pub number : Refusal → ℕ
number OutOfRange = 1
number InverseOfZero = 2
number NoSquareRoot = 3
number LengthsDiffer = 4
number TooMany = 5
number WrongLength = 6
number Above32 = 7
number Unreadable = 8

-- What an operation answers that may refuse: a word, or a refusal.
abbrev pub Answer : Type 0
Answer = Result ℕ Refusal

-- The number of the refusal, 0 for none.
abbrev pub refusal_of : Answer → ℕ
refusal_of (Ok w) = 0
refusal_of (Err r) = number r

-- 01: "Every refusal gives the word 0".
abbrev pub word_of : Answer → ℕ
word_of (Ok w) = w
word_of (Err r) = 0

-- What coding answers: done, or a refusal with an index beside it.
abbrev pub Coded : Type 0
Coded = Result (Unit {0}) RefusedAt

-- The number of the refusal, 0 for none.
abbrev pub coded_refusal : Coded → ℕ
coded_refusal (Ok _) = 0
coded_refusal (Err e) = number e.refusal

-- The index beside the refusal, 0 for none.
abbrev pub index_of : Coded → ℕ
index_of (Ok _) = 0
index_of (Err e) = e.index

-- What a lent buffer holds in the end, by the refusal's number: what was to be written, or after a refusal what it held.
abbrev pub kept : ℕ → List ℕ → List ℕ → List ℕ
kept zero new old = new
kept (suc n) new old = old
