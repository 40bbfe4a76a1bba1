use mathlib.Core.Path.{sym, ap, ◌∙◌}
use Rattle.exports.specs.RowState.{end_numbers}
use Rattle.exports.proofs.row_state.end_numbers.Goals as goal

pub returns-in-Unended : goal.returns-in-Unended
returns-in-Unended c = c.ended.ensures ∙ sym (ap end_numbers c.in-Unended.is)

pub returns-in-Done : goal.returns-in-Done
returns-in-Done c = c.ended-in-Done.ensures ∙ sym (ap end_numbers c.in-Done.is)

pub returns-in-InvalidCode : goal.returns-in-InvalidCode
returns-in-InvalidCode c = c.ended-in-InvalidCode.ensures ∙ sym (ap end_numbers c.in-InvalidCode.is)

pub returns-in-UnexpectedEof : goal.returns-in-UnexpectedEof
returns-in-UnexpectedEof c = c.ended-in-UnexpectedEof.ensures ∙ sym (ap end_numbers c.in-UnexpectedEof.is)

pub returns-in-Overflow : goal.returns-in-Overflow
returns-in-Overflow c = c.ended-in-Overflow.ensures ∙ sym (ap end_numbers c.in-Overflow.is)

pub returns-in-NoRoom : goal.returns-in-NoRoom
returns-in-NoRoom c = c.ended-in-NoRoom.ensures ∙ sym (ap end_numbers c.in-NoRoom.is)

pub returns-in-Short : goal.returns-in-Short
returns-in-Short c = c.ended-in-Short.ensures ∙ sym (ap end_numbers c.in-Short.is)
