-- `look::ledger_parts::put_row` meets its contract. Assumes nothing.
use Rattle.look.proofs.Naming.{row_as}
use Rattle.look.proofs.Stating.{tells_as}
use Rattle.ledger.proofs.Whole.{head_as}
use Rattle.look.proofs.ledger_parts.put_row.Goals as goal

pub returns : goal.returns
returns c = tells_as (row_as c.args.name.now c.args.v c.args.b c.numbers-ns.ensures c.one-looked.ensures.value (head_as c.args.v c.args.b c.one-looked.ensures.value c.one.ensures.value c.is_passed.ensures)) c.put_named.ensures
