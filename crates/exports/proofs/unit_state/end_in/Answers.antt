-- `exports::unit_state::end_in` meets its contract: numbers are an end's exactly if the end that they would be has them. Assumes nothing.
use borrow.Author.Tests.{not-true, not-false}
use Rattle.exports.proofs.UnitState.{end_is, end_none}
use Rattle.exports.proofs.unit_state.end_in.Goals as goal

pub returns-then-not-are_same : goal.returns-then-not-are_same
returns-then-not-are_same c =
    end_none _ c.end_numbers-own.result c.end_from-end.result c.end_from-end.ensures c.end_numbers-own.ensures c.are_same.result c.are_same.ensures (not-true _ c.if-not-are_same.true-raw)

pub returns : goal.returns
returns c =
    end_is _ c.end_numbers-own.result c.end_from-end.result c.end_from-end.ensures c.end_numbers-own.ensures c.are_same.result c.are_same.ensures (not-false _ c.if-not-are_same.false-raw)
