-- `exports::row_state::state_in` meets its contract: by the tests, one after the other. Assumes nothing.
use Rattle.exports.proofs.RowState.{not-ten, no-side, no_flag, has-state}
use Rattle.exports.proofs.row_state.state_in.Goals as goal

pub returns-then-state-ne10 : goal.returns-then-state-ne10
returns-then-state-ne10 c = not-ten c.args.state.now c.if-state-ne10.true

pub returns-then-state-gt1 : goal.returns-then-state-gt1
returns-then-state-gt1 c = no-side c.args.state.now c.if-state-gt1.true

pub returns-then-state-gt1-2 : goal.returns-then-state-gt1-2
returns-then-state-gt1-2 c = no_flag c.args.state.now c.if-state-gt1-2.true

pub returns : goal.returns
returns c =
    has-state c.args.state.now c.if-state-ne10.false c.if-state-gt1-2.false c.side_in.result c.side_in.ensures c.in_ok-end.end c.in_ok-end.ensures
