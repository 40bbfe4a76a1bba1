-- `exports::unit_state::reading_in` meets its contract, by its length and its end. Assumes nothing.
use Rattle.exports.proofs.UnitState.{not-sixteen}
use Rattle.exports.proofs.unit_state.reading_in.Goals as goal

pub returns-then-state-ne16 : goal.returns-then-state-ne16
returns-then-state-ne16 c = not-sixteen c.args.state.now c.if-state-ne16.true
