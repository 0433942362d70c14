-- The low bits of the canonical form.
use Rattle.std.proofs.Common.{ℕ, ◌%◌, ◌^◌, ap, ◌∙◌, rules, le-leb}
use Rattle.answers.proofs.Stands.{granted}
use Rattle.words.proofs.Laws.{slot_stands}
use Rattle.words.proofs.slots.slot.Goals as goal

pub returns : goal.returns
returns c =
    granted _ (le-leb c.args.k 32 (search rules)) (c.low_bits.ensures.0 ∙ ap (λ (n : ℕ). n % 2 ^ c.args.k) (search rules))
    (slot_stands _ _ (search rules))
