use Rattle.by_unit.proofs.Tests.{set_is}
use Rattle.by_unit.proofs.state.is_set.Goals as goal

pub returns : goal.returns
returns c = set_is c.args.number
