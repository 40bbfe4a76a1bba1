-- `booking::judging::judged` meets its contract: each test in its order, and then the page. Assumes nothing.
use mathlib.Core.Path.{◌∙◌, sym}
use borrow.Author.Tests.{not-true, not-false}
use Rattle.booking.specs.Steps.{held_in}
use Rattle.booking.proofs.Findings.{rows-kept, is-unfit, is-unread, is-other, is-behind, is-given-up, is_whole}
use Rattle.booking.proofs.judging.judged.Goals as goal

pub returns-then-not-fits : goal.returns-then-not-fits
returns-then-not-fits c =
    let s = c.args in
    c.unfit.ensures
    ∙ is-unfit s.form s.boxes.now s.places.now s.settings s.size s.checked.gave_up s.checked.proper s.checked.parts (held_in s.checked.answer s.changes.now s.ends.now s.marks.now)
    (sym c.fits.ensures ∙ not-true _ c.if-not-fits.true-raw)

pub returns-then-read-ne-COMPLETE : goal.returns-then-read-ne-COMPLETE
returns-then-read-ne-COMPLETE c =
    let s = c.args in
    c.found.ensures
    ∙ is-unread s.form s.boxes.now s.places.now s.settings s.size s.checked.gave_up s.checked.proper s.checked.parts (held_in s.checked.answer s.changes.now s.ends.now s.marks.now)
    (sym c.fits.ensures ∙ not-false _ c.if-not-fits.false-raw) c.if-read-ne-COMPLETE.true
    s.checked.answer.rows (rows-kept s.checked.answer.rows s.settings.columns s.changes.now s.ends.now s.marks.now c.requires.stored)

pub returns-then-settings-form : goal.returns-then-settings-form
returns-then-settings-form c =
    let s = c.args in
    c.other_columns.ensures
    ∙ is-other s.form s.boxes.now s.places.now s.settings s.size s.checked.gave_up s.checked.proper s.checked.parts (held_in s.checked.answer s.changes.now s.ends.now s.marks.now)
    (sym c.fits.ensures ∙ not-false _ c.if-not-fits.false-raw) c.if-read-ne-COMPLETE.false c.if-settings-form.true

pub returns-then-bytes-size : goal.returns-then-bytes-size
returns-then-bytes-size c =
    let s = c.args in
    c.found-then-bytes-size.ensures
    ∙ is-behind s.form s.boxes.now s.places.now s.settings s.size s.checked.gave_up s.checked.proper s.checked.parts (held_in s.checked.answer s.changes.now s.ends.now s.marks.now)
    (sym c.fits.ensures ∙ not-false _ c.if-not-fits.false-raw) c.if-read-ne-COMPLETE.false c.if-settings-form.false c.if-bytes-size.true

pub returns-then-checked : goal.returns-then-checked
returns-then-checked c =
    let s = c.args in
    c.plainly.ensures
    ∙ is-given-up s.form s.boxes.now s.places.now s.settings s.size s.checked.gave_up s.checked.proper s.checked.parts (held_in s.checked.answer s.changes.now s.ends.now s.marks.now)
    (sym c.fits.ensures ∙ not-false _ c.if-not-fits.false-raw) c.if-read-ne-COMPLETE.false c.if-settings-form.false c.requires.few_bytes c.if-bytes-size.false c.if-checked.true

pub returns : goal.returns
returns c =
    let s = c.args in
    c.on_rows.ensures
    ∙ is_whole s.form s.boxes.now s.places.now s.settings s.size s.checked.gave_up s.checked.proper s.checked.parts (held_in s.checked.answer s.changes.now s.ends.now s.marks.now)
    (sym c.fits.ensures ∙ not-false _ c.if-not-fits.false-raw) c.if-read-ne-COMPLETE.false c.if-settings-form.false c.requires.few_bytes c.if-bytes-size.false c.if-checked.false
