-- `look::ledger_parts::put_top` meets its contract. Assumes nothing.
use Rattle.look.proofs.Naming.{top-as}
use Rattle.look.proofs.Stating.{tells_as}
use Rattle.look.proofs.ledger_parts.put_top.Goals as goal

pub returns : goal.returns
returns c = tells_as (top-as c.args.form.now c.args.b c.unread-none.ensures c.numbers-ns.ensures c.one-first.ensures.value c.is_passed.ensures) c.put_named.ensures
