use Rattle.ledger.proofs.Whole.{total-as}
use Rattle.ledger.proofs.said.total_at.Goals as goal

pub returns : goal.returns
returns c = total-as c.args.b c.one.ensures.value c.one-2.ensures.value c.is_passed.ensures
