-- What the desk keeps between two pieces of input, and what it writes for a piece.
use Rattle.std.specs.Prelude.{cond, List, [], ◌∷◌, ◌++◌, ℕ, ◌==◌, nat_lt, length}
use Rattle.desk_line.specs.declared.desk.Desk.{Desk}
use Rattle.desk_line.specs.Replies.{reply}

-- The desk before any input. A desk is seen as what it keeps of the open line: its first 64 bytes.
abbrev pub fresh : Desk
fresh = []

-- The desk after a byte: a line end leaves no open line, and any other byte is kept while there is room.
unfoldable pub step : Desk → ℕ → Desk
step d b = cond (b == 10) fresh (cond (nat_lt (length d) 64) (d ++ (b ∷ [])) d)

-- The desk after a piece.
unfoldable pub after : Desk → List ℕ → Desk
after d [] = d
after d (b ∷ piece) = after (step d b) piece

-- What is written for a piece: a reply at each line end.
unfoldable pub written : Desk → List ℕ → List ℕ
written d [] = []
written d (b ∷ piece) = cond (b == 10) (reply d) [] ++ written (step d b) piece

-- What is written when the input ends: "a last line without it counts if it has a byte".
unfoldable pub last : Desk → List ℕ
last d = cond (length d == 0) [] (reply d)

-- All that is written for an input that comes in these pieces.
unfoldable pub spoken : Desk → List (List ℕ) → List ℕ
spoken d [] = last d
spoken d (piece ∷ pieces) = written d piece ++ spoken (after d piece) pieces
