-- `look::boxes::put_edges` meets its contract. Assumes nothing.
use Rattle.look.proofs.Stating.{tells_as, edges-as}
use Rattle.look.proofs.boxes.put_edges.Goals as goal

pub returns : goal.returns
returns c = tells_as (edges-as c.args.k c.args.b c.args.black c.args.name c.args.asked c.less-width.ensures c.less-height.ensures) c.tell_with.ensures
