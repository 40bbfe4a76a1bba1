-- `look::boxes::put_good_box` meets its contract. Assumes nothing.
use Rattle.rules.proofs.Store.{length-rows_in}
use Rattle.look.proofs.Stating.{tells_as, box-as}
use Rattle.heads.specs.Form.{page_in}
use mathlib.Core.Path.{sym}
use Rattle.look.proofs.boxes.put_good_box.Goals as goal

pub returns : goal.returns
returns c = tells_as (box-as (page_in c.args.columns c.args.changes.now c.args.ends.now) c.args.b c.args.which c.args.doubt c.args.tick (sym (length-rows_in 0 c.args.changes.now c.args.ends.now)) c.in_box-black.ensures c.state-state.ensures.value) c.put_edges.ensures
