-- `exports::unit_state::end_numbers` meets its contract, end by end. Assumes nothing.
use mathlib.Core.Path.{sym, ap, ◌∙◌}
use Rattle.exports.specs.UnitState.{end_numbers}
use Rattle.exports.proofs.unit_state.end_numbers.Goals as goal

pub returns-in-Done : goal.returns-in-Done
returns-in-Done c = c.ended.ensures ∙ sym (ap end_numbers c.in-Done.is)

pub returns-in-InvalidCode : goal.returns-in-InvalidCode
returns-in-InvalidCode c = c.ended-in-InvalidCode.ensures ∙ sym (ap end_numbers c.in-InvalidCode.is)

pub returns-in-UnexpectedEof : goal.returns-in-UnexpectedEof
returns-in-UnexpectedEof c = c.ended-in-UnexpectedEof.ensures ∙ sym (ap end_numbers c.in-UnexpectedEof.is)

pub returns-in-Overflow : goal.returns-in-Overflow
returns-in-Overflow c = c.ended-in-Overflow.ensures ∙ sym (ap end_numbers c.in-Overflow.is)

pub returns-in-NoEntry : goal.returns-in-NoEntry
returns-in-NoEntry c = c.ended-in-NoEntry.ensures ∙ sym (ap end_numbers c.in-NoEntry.is)

pub returns-in-NoRowEnd : goal.returns-in-NoRowEnd
returns-in-NoRowEnd c = c.ended-in-NoRowEnd.ensures ∙ sym (ap end_numbers c.in-NoRowEnd.is)

pub returns-in-Short : goal.returns-in-Short
returns-in-Short c = c.ended-in-Short.ensures ∙ sym (ap end_numbers c.in-Short.is)
