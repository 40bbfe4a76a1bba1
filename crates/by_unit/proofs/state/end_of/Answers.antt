use Rattle.by_unit.proofs.Tests.{at_end}
use Rattle.by_unit.proofs.state.end_of.Goals as goal

pub returns : goal.returns
returns c = at_end c.args.ends.now c.args.rows c.if-rows-eq0.false
