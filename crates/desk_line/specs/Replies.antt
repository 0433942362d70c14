-- 01, "The desk tool", whole and in one place: the bytes that answer any bytes. How digits, names and numbers are written is the crate text's.
use Rattle.std.specs.Prelude.{cond, List, [], ◌∷◌, ◌++◌, ℕ, suc, ◌%◌, ◌==◌, take, drop}
use Rattle.prime.specs.Modulus.{P}
use Rattle.answers.specs.Answers.{Answer}
use Rattle.std.specs.Prelude.{Ok, Err}
use Rattle.answers.specs.declared.refusals.Refusal.TheVariants.{InverseOfZero, NoSquareRoot, Unreadable}
use Rattle.answers.specs.Answers.{number}
use Rattle.words.specs.Words.{add_word, sub_word, mul_word, neg_word, halve_word}
use Rattle.roots.specs.Roots.{inverse_word, is_square, root_word}
use Rattle.text.specs.Names.{same}
use Rattle.text.specs.Digits.{hex, made}
use Rattle.text.specs.Decimals.{decimal}

-- A word on a line: "one space before each word, each word 16 uppercase hex digits".
abbrev pub spaced : ℕ → List ℕ
spaced x = 32 ∷ hex 16 x

-- The number that 16 digits make after a space at the place i.
abbrev pub word_at : ℕ → List ℕ → ℕ
word_at i bytes = made 16 0 (take 16 (drop (suc i) bytes))

-- `add`.
abbrev pub add : List ℕ
add = 97 ∷ 100 ∷ 100 ∷ []

-- `sub`.
abbrev pub sub : List ℕ
sub = 115 ∷ 117 ∷ 98 ∷ []

-- `mul`.
abbrev pub mul : List ℕ
mul = 109 ∷ 117 ∷ 108 ∷ []

-- `neg`.
abbrev pub neg : List ℕ
neg = 110 ∷ 101 ∷ 103 ∷ []

-- `half`.
abbrev pub half : List ℕ
half = 104 ∷ 97 ∷ 108 ∷ 102 ∷ []

-- `inv`.
abbrev pub inv : List ℕ
inv = 105 ∷ 110 ∷ 118 ∷ []

-- `root`.
abbrev pub root : List ℕ
root = 114 ∷ 111 ∷ 111 ∷ 116 ∷ []

-- "`add`, `sub`, `mul` (two words)": the held word; another name is unreadable.
unfoldable pub of_two : List ℕ → ℕ → ℕ → Answer
of_two name x y =
    cond (same name add) (Ok (add_word x y))
    (cond (same name sub) (Ok (sub_word x y))
    (cond (same name mul) (Ok (mul_word x y))
    (Err Unreadable)))

-- Of the four names with one word, the two that may refuse; another name is unreadable.
unfoldable pub may_refuse : List ℕ → ℕ → Answer
may_refuse name x =
    cond (same name inv) (cond (x % P == 0) (Err InverseOfZero) (Ok (inverse_word x)))
    (cond (same name root) (cond (is_square x) (Ok (root_word x)) (Err NoSquareRoot))
    (Err Unreadable))

-- "`neg`, `half`, `inv`, `root` (one)": the held word or the refusal.
unfoldable pub of_one : List ℕ → ℕ → Answer
of_one name x =
    cond (same name neg) (Ok (neg_word x))
    (cond (same name half) (Ok (halve_word x))
    (may_refuse name x))

-- Where two words follow a name, which is so if they are what follows, written again: the name's answer. Elsewhere the answer `other`.
unfoldable pub two : List ℕ → List ℕ → Answer → Answer
two name rest other = cond (same rest (spaced (word_at 0 rest) ++ spaced (word_at 17 rest))) (of_two name (word_at 0 rest) (word_at 17 rest)) other

-- The same where one word follows it.
unfoldable pub one : List ℕ → List ℕ → Answer → Answer
one name rest other = cond (same rest (spaced (word_at 0 rest))) (of_one name (word_at 0 rest)) other

-- The answer to a line: a name has three letters or four, and "anything else" is refused 8.
unfoldable pub answer_to : List ℕ → Answer
answer_to line =
    two (take 3 line) (drop 3 line)
    (one (take 3 line) (drop 3 line)
    (one (take 4 line) (drop 4 line)
    (Err Unreadable)))

-- The line "`refused N`", "ended by byte 10".
abbrev pub refused_line : ℕ → List ℕ
refused_line n = 114 ∷ 101 ∷ 102 ∷ 117 ∷ 115 ∷ 101 ∷ 100 ∷ 32 ∷ (decimal n ++ (10 ∷ []))

-- An answer as a line: "the held word so written, or `refused N`", "ended by byte 10".
unfoldable pub text : Answer → List ℕ
text (Ok w) = hex 16 w ++ (10 ∷ [])
text (Err r) = refused_line (number r)

-- The reply to a line.
abbrev pub reply : List ℕ → List ℕ
reply line = text (answer_to line)

-- The replies to an input that begins with an open line. "Lines end at byte 10; a last line without it counts if it has a byte."
unfoldable pub replies_from : List ℕ → List ℕ → List ℕ
replies_from [] [] = []
replies_from (b ∷ line) [] = reply (b ∷ line)
replies_from line (b ∷ input) = cond (b == 10) (reply line ++ replies_from [] input) (replies_from (line ++ (b ∷ [])) input)

-- The replies to an input.
abbrev pub replies : List ℕ → List ℕ
replies input = replies_from [] input
