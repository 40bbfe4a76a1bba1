-- `ccitt::row` meets its contract. Assumes nothing.
use mathlib.Core.Path.{sym, ◌∙◌}
use mathlib.Core.List.{[]}
use Rattle.settings.proofs.Rowed.{rowed-4, rowed-3}
use Rattle.group3.proofs.Starts.{tabled-2d}
use Rattle.ccitt.proofs.row.Goals as goal

pub swift_row-requires : goal.swift_row-requires
swift_row-requires c = (c.requires.0, tabled-2d c.args.state.reference c.args.white.now c.args.black.now c.args.both.now c.requires.1)

pub returns-then-is_group4 : goal.returns-then-is_group4
returns-then-is_group4 c = let a = c.args in rowed-4 a.src.now [] a.changes.now a.settings a.state (sym c.is_group4.ensures ∙ c.if-is_group4.true) c.swift_row.ensures

pub returns : goal.returns
returns c = let a = c.args in rowed-3 a.src.now [] a.changes.now a.settings a.state (sym c.is_group4.ensures ∙ c.if-is_group4.false) c.swift_row-2.ensures
