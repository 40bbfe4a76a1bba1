-- `booking::judging::on_rows` meets its contract: too few rows, too many, a page that is not proper, or what is found on the page in the store. Assumes nothing.
use Rattle.booking.proofs.Findings.{rows-kept, rows_few, rows-many, rows-part, rows_fit}
use Rattle.heads.specs.Form.{page_in}
use lib.ListN.{take}
use lib.Seq.{length-take-le}
use mathlib.Core.Path.{◌∙◌, sym}
use Rattle.booking.proofs.judging.on_rows.Reads as reads
use Rattle.booking.proofs.judging.on_rows.Lts as lts
use Rattle.booking.proofs.found.on_form.Reads as on-form-reads
use Rattle.booking.proofs.judging.is_improper.Reads as is-improper-reads
use Rattle.booking.proofs.judging.other_rows.Reads as other-rows-reads
use Rattle.booking.proofs.tests.found.Reads as found-reads
use Rattle.booking.proofs.judging.on_rows.Goals as goal

pub returns-then-rows-form : goal.returns-then-rows-form
returns-then-rows-form c =
    let s = c.args in
    c.other_rows.ensures
    ∙ rows_few s.form s.boxes.now s.places.now s.settings.encoding s.proper s.parts (page_in s.settings.columns s.changes.now (take s.rows s.ends.now)) (take s.rows s.marks.now) s.rows
    (rows-kept s.rows s.settings.columns s.changes.now s.ends.now s.marks.now c.requires) c.if-rows-form.true

pub returns-then-form-rows : goal.returns-then-form-rows
returns-then-form-rows c =
    let s = c.args in
    c.other_rows-then-form-rows.ensures
    ∙ rows-many s.form s.boxes.now s.places.now s.settings.encoding s.proper s.parts (page_in s.settings.columns s.changes.now (take s.rows s.ends.now)) (take s.rows s.marks.now) s.rows
    (rows-kept s.rows s.settings.columns s.changes.now s.ends.now s.marks.now c.requires) c.if-form-rows.true

pub returns-then-is_improper : goal.returns-then-is_improper
returns-then-is_improper c =
    let s = c.args in
    c.found.ensures
    ∙ rows-part s.form s.boxes.now s.places.now s.settings.encoding s.proper s.parts (page_in s.settings.columns s.changes.now (take s.rows s.ends.now)) (take s.rows s.marks.now) s.rows
    (rows-kept s.rows s.settings.columns s.changes.now s.ends.now s.marks.now c.requires) c.if-rows-form.false c.if-form-rows.false (sym c.is_improper.ensures ∙ c.if-is_improper.true)

pub slice_bounds-on_form-end : goal.slice_bounds-on_form-end
slice_bounds-on_form-end c = sym (length-take-le c.args.rows c.args.ends.now c.requires.placed)

pub slice_bounds-on_form-end-2 : goal.slice_bounds-on_form-end-2
slice_bounds-on_form-end-2 c = sym (length-take-le c.args.rows c.args.marks.now c.requires.marked)

pub on_form-requires : goal.on_form-requires
on_form-requires c =
    let s = c.args in
    (c.requires.sound, length-take-le s.rows s.marks.now c.requires.marked ∙ sym (length-take-le s.rows s.ends.now c.requires.placed), sym (length-take-le s.rows s.ends.now c.requires.placed))

pub returns : goal.returns
returns c =
    let s = c.args in
    c.on_form.ensures
    ∙ rows_fit s.form s.boxes.now s.places.now s.settings.encoding s.proper s.parts (page_in s.settings.columns s.changes.now (take s.rows s.ends.now)) (take s.rows s.marks.now) s.rows
    (rows-kept s.rows s.settings.columns s.changes.now s.ends.now s.marks.now c.requires) c.if-rows-form.false c.if-form-rows.false (sym c.is_improper.ensures ∙ c.if-is_improper.false)
