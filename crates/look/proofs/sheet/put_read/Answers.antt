-- `look::sheet::put_read` meets its contract. Assumes nothing.
use Rattle.look.proofs.Stating.{tells_as, read_as}
use Rattle.look.proofs.sheet.put_read.Goals as goal

pub returns : goal.returns
returns c = tells_as (read_as c.args.columns c.args.marks.now c.count_of-cut.ensures c.count_of-recovered.ensures) c.tell_with.ensures
