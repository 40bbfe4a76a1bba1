-- `group3::row_at` meets its contract. Assumes nothing.
use Rattle.group3.proofs.Outcomes.{line_read, line-damages, line-recovers}
use Rattle.group3.proofs.row_at.Goals as goal

pub recover-requires : goal.recover-requires
recover-requires c =
    line-damages c.requires.0 c.args.expected _ _ c.decode.ensures _ c.in-Err.is

pub returns-in-Ok : goal.returns-in-Ok
returns-in-Ok c =
    line_read c.requires.0 c.args.expected _ _ c.decode.ensures _ _ c.in-Ok.is

pub returns-in-Err : goal.returns-in-Err
returns-in-Err c =
    line-recovers c.requires.0 c.args.expected _ _ c.decode.ensures _ c.in-Err.is _ _ c.recover.ensures
