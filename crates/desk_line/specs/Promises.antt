-- The promises of the contracts.
use Rattle.std.specs.Prelude.{◌≡◌, cond, List, ◌++◌, ℕ, ◌/◌, min, length, take, drop, Ok, Err}
use Rattle.answers.specs.Answers.{Answer}
use Rattle.answers.specs.declared.refusals.Refusal.TheVariants.{Unreadable}
use Rattle.text.specs.Names.{same}
use Rattle.desk_line.specs.declared.desk.Desk.{Desk}
use Rattle.desk_line.specs.declared.desk.Fed.{Fed}
use Rattle.desk_line.specs.Replies.{spaced, word_at}
use Rattle.desk_line.specs.Pieces.{after, written}

-- What 17 bytes are read as: the word that they write, if they do, with a space before it.
unfoldable pub read_word : List ℕ → Answer
read_word bytes = cond (same bytes (spaced (word_at 0 bytes))) (Ok (word_at 0 bytes)) (Err Unreadable)

-- The desk d was fed a piece and became e: it took as much of it as there are 17 bytes in the lent buffer for each byte. The replies stand in front there.
pub record Feeds (d : Desk) (piece before : List ℕ) (e : Desk) (exit : List ℕ) (r : Fed) : Type 0 where
  pub taken : r.taken ≡ min (length piece) (length before / 17)
  pub desk : e ≡ after d (take r.taken piece)
  pub count : r.written ≡ length (written d (take r.taken piece))
  pub bytes : exit ≡ written d (take r.taken piece) ++ drop r.written before
