-- The sequence of specs/Example.antt, computed.
use mathlib.Core.Path.{◌≡◌, refl}
use mathlib.Core.List.{map}
use Rattle.words.specs.Words.{canonical, neg_word, reduce_word, mul_word}
use Rattle.wire.specs.Wire.{bytes_of, encoded}
use Rattle.sequence.specs.Outcomes.{seen}
use Rattle.calls.specs.Operations.{held_run}
use Rattle.calls.specs.Example.{start, calls, outcomes, sights}

pub computed : held_run calls start ≡ outcomes
unfolding canonical neg_word reduce_word mul_word bytes_of encoded
computed = refl

pub computed_seen : map (λ o. (seen o).words) (held_run calls start) ≡ sights
unfolding canonical neg_word reduce_word mul_word bytes_of encoded
computed_seen = refl
