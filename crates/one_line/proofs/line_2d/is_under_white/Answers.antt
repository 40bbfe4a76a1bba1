-- `one_line::line_2d::is_under_white` meets its contract. Assumes nothing.
use Rattle.one_line.proofs.line_2d.is_under_white.Goals as goal

pub returns-in-Lent : goal.returns-in-Lent
returns-in-Lent c = rw c.in-Lent.is c.is_empty.ensures

pub returns-in-Kept : goal.returns-in-Kept
returns-in-Kept c = rw c.in-Kept.is
