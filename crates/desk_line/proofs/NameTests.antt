-- What decides which operation a name asks for: its length and each byte, and what the operation answers.
use borrow.Author.Tests.{eq-eqb, ne_eqb}
use Rattle.roots.proofs.Told.{inverted_is, rooted_is}
use Rattle.text.proofs.NameLaws.{same_bytes}

pub ruleset names = (eq-eqb, ne_eqb, same_bytes, inverted_is, rooted_is)
