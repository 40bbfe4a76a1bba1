-- `look::sheet::put_found` meets its contract. Assumes nothing.
use Rattle.look.proofs.Stating.{tells_as, found_as}
use Rattle.look.proofs.sheet.put_found.Goals as goal

pub returns : goal.returns
returns c = let a = c.args in tells_as (found_as a.x a.y a.left a.top c.apart-across.ensures c.apart-down.ensures c.found_at-k.ensures) c.tell_with.ensures
