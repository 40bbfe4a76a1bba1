-- The change is recorded where the parities differ.
use mathlib.Core.Path.{sym, ◌∙◌}
use Rattle.swift_loops.proofs.Swiftly.{noted-turned, noted-same}
use Rattle.swift_loops.proofs.fast_2d.note.Goals as goal

pub returns-then-is_change : goal.returns-then-is_change
returns-then-is_change c = noted-turned c.args.row.now c.args.s c.requires (sym c.is_change.ensures ∙ c.if-is_change.true)

pub returns : goal.returns
returns c = noted-same c.args.row.now c.args.s c.requires (sym c.is_change.ensures ∙ c.if-is_change.false)
