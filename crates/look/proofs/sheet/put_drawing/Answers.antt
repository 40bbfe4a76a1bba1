-- `look::sheet::put_drawing` meets its contract. Assumes nothing.
use Rattle.look.proofs.Stating.{tells_as, sheet-as}
use Rattle.look.proofs.sheet.put_drawing.Goals as goal

pub returns : goal.returns
returns c = tells_as (sheet-as 28 c.args.columns c.args.rows c.args.most c.larger-high.ensures) c.tell_with.ensures
