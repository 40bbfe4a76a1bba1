-- `writer::mode::vertical` meets its contract. By the side on which a1 lies. Assumes nothing.
use mathlib.Core.Path.{ap, ◌∙◌}
use Rattle.writer.specs.Coding.{vertical_size}
use Rattle.writer.proofs.ModeCodes.{vertical-left, vertical-right, vertical-there}
use Rattle.writer.proofs.mode.vertical.Goals as goal

pub returns-then-a1-b1 : goal.returns-then-a1-b1
returns-then-a1-b1 c =
    vertical-left c.args.b1 c.args.a1 _ c.requires
    (c.vertical_size-size.ensures ∙ ap vertical_size c.distance.ensures) c.if-a1-b1.true

pub returns-then-b1-a1 : goal.returns-then-b1-a1
returns-then-b1-a1 c =
    vertical-right c.args.b1 c.args.a1 _ c.requires
    (c.vertical_size-size.ensures ∙ ap vertical_size c.distance.ensures) c.if-b1-a1.true

pub returns : goal.returns
returns c =
    vertical-there c.args.b1 c.args.a1 _ c.requires (c.vertical_size-size.ensures ∙ ap vertical_size
    c.distance.ensures) c.if-a1-b1.false c.if-b1-a1.false
