-- `exports::ccitt_read_row` meets its contract: the numbers are a state's or none's, and the encoding is of the list unless the page has ended. Assumes nothing.
use mathlib.Core.Logic.{inl, inr}
use mathlib.Core.Path.{sym, ap, subst}
use lib.ListN.{length}
use borrow.Author.Tests.{not-true, not-false}
use Rattle.exports.proofs.RowState.{no-state, no-encoding, called}
use Rattle.exports.specs.RowState.{mode_of, StateTold, Ended}
use Rattle.exports.specs.Exports.{settings_for}
use Rattle.exports.proofs.ccitt_read_row.Goals.{then-encoding-gt2+else-not-has_ended, else-encoding-gt2}
use Rattle.exports.proofs.ccitt_read_row.Goals as goal

pub returns-then-not-has_ended : goal.returns-then-not-has_ended
returns-then-not-has_ended c =
    let a = c.args in
    no-encoding a.src.now (settings_for a.columns a.rows a.end_of_block a.end_of_line a.rows_are_byte_aligned (mode_of a.encoding) a.strict a.exact a.plain) a.encoding a.state.now a.first.now a.second.now
    c.in-Some.held (subst (StateTold a.state.now) c.in-Some.is c.state_in.ensures) c.if-encoding-gt2.true (subst (Ended c.in-Some.held) (not-true c.has_ended.result c.if-not-has_ended.true-raw) c.has_ended.ensures) _ c.refused-then-not-has_ended.ensures

pub put-requires : goal.put-requires
put-requires c = sym (ap length (subst (StateTold c.args.state.now) c.in-Some.is c.state_in.ensures))

pub returns-in-None : goal.returns-in-None
returns-in-None c =
    let a = c.args in
    no-state a.src.now (settings_for a.columns a.rows a.end_of_block a.end_of_line a.rows_are_byte_aligned (mode_of a.encoding) a.strict a.exact a.plain) a.encoding a.state.now a.first.now a.second.now
    (subst (StateTold a.state.now) c.in-None.is c.state_in.ensures) _ c.refused.ensures

pub returns-after-encoding-gt2 : goal.returns-after-encoding-gt2
returns-after-encoding-gt2 c =
    let a = c.args in
    called a.src.now (settings_for a.columns a.rows a.end_of_block a.end_of_line a.rows_are_byte_aligned (mode_of a.encoding) a.strict a.exact a.plain) a.encoding a.state.now a.first.now a.second.now
    c.in-Some.held (subst (StateTold a.state.now) c.in-Some.is c.state_in.ensures)
    (elim c.if-encoding-gt2.branch [ then-encoding-gt2+else-not-has_ended w ↦ inr (subst (Ended c.in-Some.held) (not-false w.has_ended.result w.if-not-has_ended.false-raw) w.has_ended.ensures) | else-encoding-gt2 w ↦ inl w.if-encoding-gt2.false ])
    c.read_row-step.result _ _ (rw c.mode.ensures at c.read_row-step.ensures) _ c.put.ensures
