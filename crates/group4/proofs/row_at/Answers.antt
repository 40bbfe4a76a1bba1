-- `group4::row_at` meets its contract. Assumes nothing.
use Rattle.group4.proofs.Outcomes.{row-asks, line-inside, row_kept, row-stops}
use Rattle.group4.proofs.row_at.Goals as goal

pub decode_2d_line-requires : goal.decode_2d_line-requires
decode_2d_line-requires c = (row-asks c.requires.0, c.requires.1)

pub align_if-requires : goal.align_if-requires
align_if-requires c = line-inside c.requires.0 _ _ c.decode_2d_line.ensures _ _ c.in-Ok.is

pub returns-in-Ok : goal.returns-in-Ok
returns-in-Ok c = row_kept c.requires.0 _ _ c.decode_2d_line.ensures _ _ _ c.in-Ok.is c.align_if.ensures

pub returns-in-Err : goal.returns-in-Err
returns-in-Err c = row-stops c.requires.0 _ _ c.decode_2d_line.ensures _ c.in-Err.is
