use mathlib.Core.Path.{sym, ap}
use Rattle.by_unit.specs.Reading.{loose_for}
use Rattle.by_unit.proofs.state.loose_of.Goals as goal

pub returns-in-InRun : goal.returns-in-InRun
returns-in-InRun c = ap loose_for (sym c.in-InRun.is)
