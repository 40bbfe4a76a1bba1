-- `writer::row3::put_row` meets its contract. Assumes nothing.
use Rattle.writer.specs.Paging3.{layout_of}
use Rattle.writer.proofs.Row3Laws.{ahead-room, line-room, row-puts}
use Rattle.writer.proofs.row3.put_row.Goals as goal

pub put_ahead-next-requires : goal.put_ahead-next-requires
put_ahead-next-requires c =
    let a = c.args in
    (c.requires.2, ahead-room a.out.now (layout_of a.layout) a.width a.single a.above.now a.row.now c.requires.1)

pub put_kind-requires : goal.put_kind-requires
put_kind-requires c =
    let a = c.args in
    (c.requires.0, line-room a.out.now (layout_of a.layout) a.width a.single a.above.now a.row.now c.requires.1 c.put_ahead-next.ensures)

pub returns : goal.returns
returns c =
    let a = c.args in
    row-puts a.out.now (layout_of a.layout) a.width a.single a.above.now a.row.now c.requires.1 c.put_ahead-next.ensures c.put_kind.ensures
