use Rattle.by_unit.proofs.Turning.{turn_more, turn-done}
use Rattle.by_unit.proofs.turn_of.Goals as goal

pub returns-in-More : goal.returns-in-More
returns-in-More c = turn_more c.args.settings c.args.taken _ _ _ c.in-More.is _ c.loose_of.ensures _ c.said.ensures _ c.saved.ensures

pub returns-in-Done : goal.returns-in-Done
returns-in-Done c = turn-done c.args.settings c.args.taken _ c.in-Done.is _ c.unless_few.ensures _ c.ended.ensures
