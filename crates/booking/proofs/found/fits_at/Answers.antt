-- By the place that failed last, by another, or by none. Assumes nothing.
use Rattle.booking.proofs.Seeking.{fits-fails, fits-some, fits-none}
use Rattle.heads.proofs.RowsAt.{rows-length}
use Rattle.heads.specs.Form.{page_in}
use borrow.Author.Tests.{not-true}
use mathlib.Core.Path.{sym, ◌∙◌}
use Rattle.booking.proofs.found.fits_at.Goals as goal

pub returns-then-not-stands : goal.returns-then-not-stands
returns-then-not-stands c =
    let a = c.args in
    fits-fails a.across a.down a.count a.boxes.now a.places.now (page_in a.columns a.changes.now a.ends.now) a.rows a.i
    (c.requires.rows_are ∙ sym (rows-length 0 a.changes.now a.ends.now)) a.hint c.if-hint-count.true (c.stands.ensures a.count c.if-hint-count.true) (not-true _ c.if-not-stands.true-raw)

pub returns-then-f-ne0 : goal.returns-then-f-ne0
returns-then-f-ne0 c =
    let a = c.args in
    fits-some a.across a.down a.count a.boxes.now a.places.now (page_in a.columns a.changes.now a.ends.now) a.rows a.i
    (c.requires.rows_are ∙ sym (rows-length 0 a.changes.now a.ends.now)) c.failing-f.ensures c.if-f-ne0.true

pub returns-then-not-boxes_inside : goal.returns-then-not-boxes_inside
returns-then-not-boxes_inside c =
    let a = c.args in
    sym c.if-not-boxes_inside.true ∙ fits-none a.across a.down a.count a.boxes.now a.places.now (page_in a.columns a.changes.now a.ends.now) a.rows a.i
    (c.requires.rows_are ∙ sym (rows-length 0 a.changes.now a.ends.now)) c.failing-f.ensures c.if-f-ne0.false c.boxes_inside.ensures

pub returns : goal.returns
returns c =
    let a = c.args in
    sym c.if-not-boxes_inside.false ∙ fits-none a.across a.down a.count a.boxes.now a.places.now (page_in a.columns a.changes.now a.ends.now) a.rows a.i
    (c.requires.rows_are ∙ sym (rows-length 0 a.changes.now a.ends.now)) c.failing-f.ensures c.if-f-ne0.false c.boxes_inside.ensures
