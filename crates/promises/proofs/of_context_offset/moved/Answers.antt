-- `promises::of_context_offset::moved` meets its contract, which is that of `context::offset::moved`; an offset that is handed on is the offset that came. Assumes nothing.
use mathlib.Core.Path.{ap, ◌∙◌}
use lib.IntN.{ℤ}
use Rattle.codes.specs.Modes.{offset_mode}
use Rattle.context.specs.Offset.{move_by}
use Rattle.context.proofs.Signed.{offset-held}
use Rattle.promises.proofs.of_context_offset.moved.Goals as goal

pub returns : goal.returns
returns c =
    c.moved.ensures ∙ ap (λ (z : ℤ). move_by c.args.b1 (offset_mode z) c.args.position) (offset-held c.args.offset c.requires)
