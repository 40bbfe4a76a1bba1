-- `writer::same_row3::same_kind` meets its contract. By the kind of line. Assumes nothing.
use Rattle.writer.proofs.Row3Laws.{line-1d, line-2d}
use Rattle.writer.proofs.Leaving.{meets-as}
use Rattle.writer.proofs.CodesMet3.{facing-1d}
use Rattle.writer.proofs.same_row3.same_kind.Goals as goal

pub same_line1-requires : goal.same_line1-requires
same_line1-requires c = (c.requires.0, facing-1d c.requires.1, c.requires.2)

pub returns-then-single : goal.returns-then-single
returns-then-single c = meets-as (line-1d _ _ _ _ c.if-single.true) c.same_line1.ensures

pub returns : goal.returns
returns c = meets-as (line-2d _ _ _ _ c.if-single.false) c.same_line.ensures
