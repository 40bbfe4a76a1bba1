-- `by_row::row_under` meets its contract. Assumes nothing.
use mathlib.Core.Path.{sym, ◌∙◌}
use Rattle.settings.proofs.Rowed.{rowed-4, rowed-3}
use Rattle.by_row.proofs.ByRow.{none-tabled, none-paired}
use Rattle.by_row.proofs.row_under.Goals as goal

pub lone_row-requires : goal.lone_row-requires
lone_row-requires c = (c.requires.0, none-tabled _ _ c.requires.1)

pub returns-then-is_group4 : goal.returns-then-is_group4
returns-then-is_group4 c = let a = c.args in rowed-4 a.src.now a.lent.now a.changes.now a.settings a.state (sym c.is_group4.ensures ∙ c.if-is_group4.true) c.lone_row.ensures

pub lone_row-requires-2 : goal.lone_row-requires-2
lone_row-requires-2 c = (c.requires.0, none-paired _ _ _ c.requires.1)

pub returns : goal.returns
returns c = let a = c.args in rowed-3 a.src.now a.lent.now a.changes.now a.settings a.state (sym c.is_group4.ensures ∙ c.if-is_group4.false) c.lone_row-2.ensures
