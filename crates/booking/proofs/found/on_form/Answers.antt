-- Each return is one arm of the definition. Assumes nothing.
use Rattle.booking.proofs.Looking.{form-still, form-cannot, form-looks}
use Rattle.heads.specs.Form.{page_in}
use borrow.Author.Tests.{not-true, not-false}
use mathlib.Core.Path.{sym, ◌∙◌}
use Rattle.booking.proofs.found.on_form.Reads as reads
use Rattle.booking.proofs.found.on_form.Lts as lts
use Rattle.booking.proofs.found.can_look_for.Reads as can-look-for-reads
use Rattle.booking.proofs.found.has_shift.Reads as has-shift-reads
use Rattle.booking.proofs.found.looked_for.Reads as looked-for-reads
use Rattle.booking.proofs.tests.on_page.Reads as on-page-reads
use Rattle.booking.proofs.tests.plainly.Reads as plainly-reads
use Rattle.booking.proofs.found.on_form.Goals as goal

pub returns-then-not-has_shift : goal.returns-then-not-has_shift
returns-then-not-has_shift c =
    let a = c.args in
    c.on_page.ensures ∙ form-still a.form a.boxes.now a.places.now a.encoding (page_in a.columns a.changes.now a.ends.now) a.marks.now c.has_shift.ensures (not-true _ c.if-not-has_shift.true-raw)

pub returns-then-not-can_look_for : goal.returns-then-not-can_look_for
returns-then-not-can_look_for c =
    let a = c.args in
    c.plainly.ensures ∙ form-cannot a.form a.boxes.now a.places.now a.encoding (page_in a.columns a.changes.now a.ends.now) a.marks.now c.has_shift.ensures (not-false _ c.if-not-has_shift.false-raw) c.can_look_for.ensures (not-true _ c.if-not-can_look_for.true-raw)

pub looked_for-requires : goal.looked_for-requires
looked_for-requires c = record { sound = c.requires.0; marked = c.requires.1; rows_are = c.requires.2; can = sym c.can_look_for.ensures ∙ not-false _ c.if-not-can_look_for.false-raw }

pub returns : goal.returns
returns c =
    let a = c.args in
    c.looked_for.ensures ∙ form-looks a.form a.boxes.now a.places.now a.encoding (page_in a.columns a.changes.now a.ends.now) a.marks.now c.has_shift.ensures (not-false _ c.if-not-has_shift.false-raw) c.can_look_for.ensures (not-false _ c.if-not-can_look_for.false-raw)
