-- The loop's invariant: the digits still to be written, and those that stand behind them, make them all.
use Rattle.std.proofs.Common.{◌≡◌, ◌++◌, length, drop}
use Rattle.text.specs.Digits.{hex}
use Rattle.text.proofs.digits.hex.Given as goal

abbrev pub invariant-loop-i : goal.invariant-loop-i
invariant-loop-i l = record { room : length l.text ≡ 16; spelt : hex l.i l.rest ++ drop l.i l.text ≡ hex 16 l.word }
