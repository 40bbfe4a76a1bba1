-- `codes::plain::row_at` meets its contract: each way reads the table in which the place lies. Assumes nothing.
use Rattle.codes.proofs.Verdicts.{row_first, row-second, row-third}
use Rattle.codes.proofs.plain.row_at.Goals as goal

pub returns-then-i-lt64 : goal.returns-then-i-lt64
returns-then-i-lt64 c =
    let a = c.args in
    row_first a.terminating.now a.makeup.now a.common.now a.i c.requires.0 c.if-i-lt64.true

pub returns-then-i-lt91 : goal.returns-then-i-lt91
returns-then-i-lt91 c =
    let a = c.args in
    row-second a.terminating.now a.makeup.now a.common.now a.i c.requires.0 c.requires.1 c.if-i-lt64.false c.if-i-lt91.true

pub returns-else-i-lt91 : goal.returns-else-i-lt91
returns-else-i-lt91 c =
    let a = c.args in
    row-third a.terminating.now a.makeup.now a.common.now a.i c.requires.0 c.requires.1 c.if-i-lt91.false
