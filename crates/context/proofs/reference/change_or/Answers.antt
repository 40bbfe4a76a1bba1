-- A place within the row, and one past its end.
use Rattle.context.proofs.Search.{head_at, head-past}
use Rattle.context.proofs.reference.change_or.Goals as goal

pub returns-then-place-row : goal.returns-then-place-row
returns-then-place-row c = let a = c.args in head_at a.width a.row.now a.place c.if-place-row.true

pub returns : goal.returns
returns c = let a = c.args in head-past a.width a.row.now a.place c.if-place-row.false
