-- `group3::row` meets its contract. Assumes nothing.
use Rattle.group3.proofs.Outcomes.{end-inside, row_ends, row-lacks, row_line, row_gives}
use Rattle.group3.proofs.row.Goals as goal

pub end_at-requires : goal.end_at-requires
end_at-requires c =
    end-inside c.requires.0 c.between.result c.between.ensures _ c.in-End.is

pub row_at-requires : goal.row_at-requires
row_at-requires c =
    (row_line c.requires.0 c.between.result c.between.ensures _ _ c.in-Line.is, c.requires.1)

pub returns-in-End : goal.returns-in-End
returns-in-End c =
    row_ends c.requires.0 c.between.result c.between.ensures _ c.in-End.is _ c.end_at.ensures

pub returns-in-NoEol : goal.returns-in-NoEol
returns-in-NoEol c =
    row-lacks c.requires.0 c.between.result c.between.ensures _ c.in-NoEol.is

pub returns-in-Line : goal.returns-in-Line
returns-in-Line c =
    row_gives c.requires.0 c.between.result c.between.ensures _ _ c.in-Line.is _ _ c.row_at.ensures
