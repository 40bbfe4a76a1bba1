-- `exports::unit_state::put` meets its contract, by what the reading is. Assumes nothing.
use mathlib.Core.Path.{sym, ap, ◌∙◌}
use Rattle.exports.specs.UnitState.{numbers_of}
use Rattle.exports.proofs.unit_state.put.Goals as goal

pub returns-in-Open : goal.returns-in-Open
returns-in-Open c = c.put_open.ensures ∙ sym (ap numbers_of c.in-Open.is)

pub returns-in-Ended : goal.returns-in-Ended
returns-in-Ended c = c.put_ended.ensures ∙ sym (ap numbers_of c.in-Ended.is)
