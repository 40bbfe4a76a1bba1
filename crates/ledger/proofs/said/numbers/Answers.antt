use Rattle.ledger.proofs.Whole.{numbers_as}
use Rattle.ledger.proofs.said.numbers.Goals as goal

pub returns : goal.returns
returns c = numbers_as c.args.v c.args.b c.counted_pages.ensures c.size_left.ensures
