-- 01's example, computed.
use mathlib.Core.Path.{◌≡◌, refl}
use Rattle.words.specs.Words.{canonical, neg_word}
use Rattle.text.specs.Names.{same}
use Rattle.text.specs.Digits.{glyph, digit, digits, made}
use Rattle.text.specs.Decimals.{places, decimal}
use Rattle.desk_line.specs.Replies.{may_refuse, of_one, two, one, answer_to, text, replies_from, replies}
use Rattle.desk_line.specs.Example.{input, output}

-- `neg` of 0 is P, P has no inverse, and a word has 16 digits.
pub example : replies input ≡ output
unfolding same glyph digit digits made places decimal may_refuse of_one two one answer_to text replies_from canonical neg_word
example = refl
