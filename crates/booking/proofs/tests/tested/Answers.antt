-- By A11's number, and by the first row that the form rests on and that is not clean. Assumes nothing.
use mathlib.Core.Path.{◌∙◌}
use Rattle.heads.proofs.Answering.{sound-rows}
use Rattle.booking.proofs.Tested.{page-11, page-touched, page-13, page-row, page-standing}
use Rattle.booking.proofs.tests.tested.Goals as goal

pub returns-then-said-eq-BAD_FORM : goal.returns-then-said-eq-BAD_FORM
returns-then-said-eq-BAD_FORM c =
    let a = c.args in
    c.plainly.ensures
    ∙ page-11 a.form a.boxes.now a.places.now a.encoding a.columns a.changes.now a.ends.now a.marks.now
    c.requires.0 c.requires.1 c.requires.2 c.heads_from-said.ensures c.if-said-eq-BAD_FORM.true

pub mended-requires : goal.mended-requires
mended-requires c =
    let a = c.args in
    let t = page-touched a.form a.boxes.now a.places.now a.encoding a.columns a.changes.now a.ends.now a.marks.now
    c.requires.0 c.requires.1 c.requires.2 c.heads_from-said.ensures c.if-said-eq-MENDED_ROW.true in
    (c.requires.2, t)

pub returns-then-said-eq-MENDED_ROW : goal.returns-then-said-eq-MENDED_ROW
returns-then-said-eq-MENDED_ROW c =
    let a = c.args in
    page-13 a.form a.boxes.now a.places.now a.encoding a.columns a.changes.now a.ends.now a.marks.now
    c.requires.0 c.requires.1 c.requires.2 c.heads_from-said.ensures c.if-said-eq-BAD_FORM.false
    c.if-said-eq-MENDED_ROW.true c.mended.ensures

pub returns-then-y-marks : goal.returns-then-y-marks
returns-then-y-marks c =
    let a = c.args in
    c.unclean_row.ensures
    ∙ page-row a.form a.boxes.now a.places.now a.encoding a.columns a.changes.now a.ends.now a.marks.now
    c.requires.0 c.requires.1 c.requires.2 c.heads_from-said.ensures
    c.if-said-eq-BAD_FORM.false c.if-said-eq-MENDED_ROW.false c.resting-y.ensures c.if-y-marks.true

pub standing-requires : goal.standing-requires
standing-requires c =
    let a = c.args in
    (sound-rows a.columns a.changes.now a.ends.now a.marks.now c.requires.0, c.requires.2, c.requires.3)

pub returns : goal.returns
returns c =
    let a = c.args in
    c.standing.ensures
    ∙ page-standing a.form a.boxes.now a.places.now a.encoding a.columns a.changes.now a.ends.now a.marks.now
    c.requires.0 c.requires.1 c.requires.2 c.heads_from-said.ensures
    c.if-said-eq-BAD_FORM.false c.if-said-eq-MENDED_ROW.false c.resting-y.ensures c.if-y-marks.false
