-- By whether the boxes and the places are there. Assumes nothing.
use mathlib.Core.Path.{◌∙◌}
use native.Mathlib.Omega.{arith}
use Rattle.heads.specs.Form.{page_in}
use Rattle.booking.proofs.Tested.{on-boxes, on-places, on_both}
use Rattle.booking.proofs.tests.on_page.Goals as goal

pub returns-then-boxes-ne80 : goal.returns-then-boxes-ne80
returns-then-boxes-ne80 c =
    let a = c.args in
    c.plainly.ensures ∙ on-boxes a.form a.boxes.now a.places.now a.encoding (page_in a.columns a.changes.now a.ends.now)
    a.marks.now c.if-boxes-ne80.true

pub returns-then-places-form : goal.returns-then-places-form
returns-then-places-form c =
    let a = c.args in
    c.plainly-then-places-form.ensures ∙ on-places a.form a.boxes.now a.places.now a.encoding (page_in a.columns a.changes.now a.ends.now)
    a.marks.now c.if-boxes-ne80.false c.if-places-form.true

pub tested-requires : goal.tested-requires
tested-requires c =
    (c.requires.0, c.requires.1, c.if-boxes-ne80.false, omega arith)

pub returns : goal.returns
returns c =
    let a = c.args in
    c.tested.ensures ∙ on_both a.form a.boxes.now a.places.now a.encoding (page_in a.columns a.changes.now a.ends.now) a.marks.now
    c.if-boxes-ne80.false c.if-places-form.false
