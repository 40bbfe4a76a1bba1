-- `by_row::next_row` meets its contract, by the laws of ByRow: `u` is the place behind the row, `e`, `t`, `g` and `s` are those behind the settings, the columns, the state's tests and the start.
use mathlib.Core.Path.{refl, sym, ◌∙◌}
use borrow.Author.Tests.{not-true, not-false}
use Rattle.by_row.proofs.ByRow.{next-refused, next-none, held-length, next-asks, grows, next-ends, short-ends, next-given, next-short, next-ended}
use Rattle.by_row.proofs.next_row.Goals as goal

pub returns-then-not-is_sound : goal.returns-then-not-is_sound
returns-then-not-is_sound c =
    rw c.refused.ensures (next-refused c.args.src.now c.args.settings c.args.state c.args.reference.now c.args.changes.now c.requires (sym (not-true _ c.if-not-is_sound.true-raw) ∙ c.is_sound.ensures))

pub returns-then-settings-eq0 : goal.returns-then-settings-eq0
returns-then-settings-eq0 c =
    rw c.no_columns.ensures (next-none c.args.src.now c.args.settings c.args.state c.args.reference.now c.args.changes.now c.requires (sym (not-false _ c.if-not-is_sound.false-raw) ∙ c.is_sound.ensures) c.if-settings-eq0.true)

pub slice_bounds-row_under-end : goal.slice_bounds-row_under-end
slice_bounds-row_under-end c =
    held-length c.args.src.now c.args.settings c.args.state c.args.reference.now c.args.changes.now c.requires (sym (not-false _ c.if-not-is_sound.false-raw) ∙ c.is_sound.ensures)

pub row_under-requires : goal.row_under-requires
row_under-requires c =
    rw c.strict_if_exact.ensures
    (next-asks c.args.src.now c.args.settings c.args.state c.args.reference.now c.args.changes.now c.requires (sym (not-false _ c.if-not-is_sound.false-raw) ∙ c.is_sound.ensures) c.if-settings-eq0.false, refl)

pub given-requires : goal.given-requires
given-requires c =
    grows c.args.src.now c.args.settings c.args.state c.args.reference.now c.args.changes.now c.requires (sym (not-false _ c.if-not-is_sound.false-raw) ∙ c.is_sound.ensures) c.if-settings-eq0.false _ _ (rw c.strict_if_exact.ensures at c.row_under.ensures) _ _ _ _ c.in-Ok.is

pub ends-requires : goal.ends-requires
ends-requires c =
    short-ends c.args.src.now c.args.settings c.args.state c.args.reference.now c.args.changes.now c.requires (sym (not-false _ c.if-not-is_sound.false-raw) ∙ c.is_sound.ensures) c.if-settings-eq0.false _ _ (rw c.strict_if_exact.ensures at c.row_under.ensures) _ _ _ _ c.in-Err.is
    (sym c.if-is_short.true ∙ c.is_short.ensures)

pub returns-then-is_short : goal.returns-then-is_short
returns-then-is_short c =
    next-short c.args.src.now c.args.settings c.args.state c.args.reference.now c.args.changes.now c.requires (sym (not-false _ c.if-not-is_sound.false-raw) ∙ c.is_sound.ensures) c.if-settings-eq0.false _ _ (rw c.strict_if_exact.ensures at c.row_under.ensures) _ _ _ _ c.in-Err.is
    (sym c.if-is_short.true ∙ c.is_short.ensures) _ c.ends.ensures

pub ends-requires-in-Err : goal.ends-requires-in-Err
ends-requires-in-Err c =
    next-ends c.args.src.now c.args.settings c.args.state c.args.reference.now c.args.changes.now c.requires (sym (not-false _ c.if-not-is_sound.false-raw) ∙ c.is_sound.ensures) c.if-settings-eq0.false _ _ (rw c.strict_if_exact.ensures at c.row_under.ensures) _ _ _ _ c.in-Err.is

pub returns-in-Ok : goal.returns-in-Ok
returns-in-Ok c =
    rw c.given.ensures
    (next-given c.args.src.now c.args.settings c.args.state c.args.reference.now c.args.changes.now c.requires (sym (not-false _ c.if-not-is_sound.false-raw) ∙ c.is_sound.ensures) c.if-settings-eq0.false _ _ (rw c.strict_if_exact.ensures at c.row_under.ensures) _ _ _ _ c.in-Ok.is)

pub returns-else-is_short : goal.returns-else-is_short
returns-else-is_short c =
    next-ended c.args.src.now c.args.settings c.args.state c.args.reference.now c.args.changes.now c.requires (sym (not-false _ c.if-not-is_sound.false-raw) ∙ c.is_sound.ensures) c.if-settings-eq0.false _ _ (rw c.strict_if_exact.ensures at c.row_under.ensures) _ _ _ _ c.in-Err.is
    (sym c.if-is_short.false ∙ c.is_short.ensures) _ c.ends-in-Err.ensures
