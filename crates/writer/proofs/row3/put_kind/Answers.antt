-- `writer::row3::put_kind` meets its contract: by the kind of line. Assumes nothing.
use Rattle.writer.proofs.Row3Laws.{puts-as, lined-1d, lined-2d, line-1d, line-2d}
use Rattle.writer.proofs.row3.put_kind.Goals as goal

pub put_line1-requires : goal.put_line1-requires
put_line1-requires c =
    (c.requires.0, lined-1d _ _ _ c.if-single.true c.requires.1)

pub returns-then-single : goal.returns-then-single
returns-then-single c = puts-as (line-1d _ _ _ _ c.if-single.true) c.put_line1.ensures

pub put_line-requires : goal.put_line-requires
put_line-requires c =
    (c.requires.0, lined-2d _ _ _ c.if-single.false c.requires.1)

pub returns : goal.returns
returns c = puts-as (line-2d _ _ _ _ c.if-single.false) c.put_line.ensures
