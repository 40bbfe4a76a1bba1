-- `look::ledger_parts::put_page` meets its contract. Assumes nothing.
use Rattle.look.proofs.Naming.{page-as}
use Rattle.look.proofs.Stating.{tells_as}
use Rattle.look.proofs.ledger_parts.put_page.Goals as goal

pub returns : goal.returns
returns c = tells_as (page-as c.args.name.now c.args.v c.args.b c.numbers-ns.ensures) c.put_named.ensures
