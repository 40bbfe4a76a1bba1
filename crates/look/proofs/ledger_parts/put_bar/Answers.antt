-- `look::ledger_parts::put_bar` meets its contract. Assumes nothing.
use Rattle.look.proofs.Stating.{tells_as, bar-as}
use Rattle.look.proofs.ledger_parts.put_bar.Goals as goal

pub returns : goal.returns
returns c = tells_as (bar-as c.args.v c.args.b c.less-before.ensures c.one-k.ensures.value) c.tell_with.ensures
