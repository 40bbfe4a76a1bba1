-- `look::boxes::put_good_place` meets its contract. Assumes nothing.
use Rattle.rules.proofs.Store.{length-rows_in}
use Rattle.look.proofs.Stating.{tells_as, place-as}
use Rattle.heads.specs.Form.{page_in}
use mathlib.Core.Path.{sym}
use Rattle.look.proofs.boxes.put_good_place.Goals as goal

pub returns : goal.returns
returns c = tells_as (place-as (page_in c.args.columns c.args.changes.now c.args.ends.now) c.args.b c.args.kind c.args.asked c.args.line (sym (length-rows_in 0 c.args.changes.now c.args.ends.now)) c.in_box-black.ensures c.place_state-k.ensures.value) c.put_edges.ensures
