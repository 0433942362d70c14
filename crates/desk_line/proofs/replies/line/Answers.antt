-- The two texts and the line's end find room.
use native.Mathlib.Omega.{arith}
use mathlib.Core.List.{[], ◌∷◌}
use Rattle.text.proofs.LineLaws.{three_joined}
use Rattle.desk_line.proofs.replies.line.Goals as goal

pub returns : goal.returns
returns c =
    three_joined 17 c.args.front.now c.args.back.now (10 ∷ []) (omega (arith, c.requires)) c.new-reply.ensures c.extend.ensures.joined c.extend-2.ensures.joined
    c.push.ensures
