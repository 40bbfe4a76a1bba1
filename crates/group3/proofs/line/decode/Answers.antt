-- `group3::line::decode` meets its contract. Assumes nothing.
use Rattle.group3.proofs.Starts.{tabled-1d, tabled-2d, line-missing, one-starts, line-one, two-asks, line-two}
use Rattle.group3.proofs.line.decode.Goals as goal

pub decode_1d_line-requires : goal.decode_1d_line-requires
decode_1d_line-requires c =
    (one-starts c.requires.0 c.kind_at.result c.kind_at.ensures _ c.in-One.is, tabled-1d c.args.state.reference c.is_kept.ensures c.requires.1)

pub decode_2d_line-requires : goal.decode_2d_line-requires
decode_2d_line-requires c =
    (two-asks c.requires.0 c.kind_at.result c.kind_at.ensures _ c.in-Two.is, tabled-2d c.args.state.reference c.args.white.now c.args.black.now c.args.both.now c.requires.1)

pub returns-in-NoTag : goal.returns-in-NoTag
returns-in-NoTag c =
    rw c.new_line.ensures (line-missing c.requires.0 c.kind_at.result c.kind_at.ensures c.in-NoTag.is)

pub returns-in-One : goal.returns-in-One
returns-in-One c =
    line-one c.requires.0 c.kind_at.result c.kind_at.ensures _ c.in-One.is _ _ c.decode_1d_line.ensures

pub returns-in-Two : goal.returns-in-Two
returns-in-Two c =
    line-two c.requires.0 c.kind_at.result c.kind_at.ensures _ c.in-Two.is _ _ c.decode_2d_line.ensures
