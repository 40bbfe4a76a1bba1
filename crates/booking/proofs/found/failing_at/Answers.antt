-- As many places fail as the limit says; or outside the page by a box, by a place, or inside it. Assumes nothing.
use Rattle.booking.proofs.Seeking.{failed-many, failed-boxes, failed-places, failed-inside}
use Rattle.heads.proofs.RowsAt.{rows-length}
use Rattle.heads.specs.Form.{page_in}
use borrow.Author.Tests.{not-true, not-false}
use mathlib.Core.Path.{sym, ◌∙◌}
use Rattle.booking.proofs.found.failing_at.Reads as reads
use Rattle.booking.proofs.found.failing_at.Lts as lts
use Rattle.booking.proofs.found.failing.Reads as failing-reads
use Rattle.booking.proofs.moving.boxes_inside.Reads as boxes-inside-reads
use Rattle.booking.proofs.moving.places_inside.Reads as places-inside-reads
use Rattle.booking.proofs.found.failing_at.Goals as goal

pub returns-then-limit-f : goal.returns-then-limit-f
returns-then-limit-f c =
    let a = c.args in
    failed-many a.across a.down a.count a.boxes.now a.places.now (page_in a.columns a.changes.now a.ends.now) a.rows a.i
    (c.requires.rows_are ∙ sym (rows-length 0 a.changes.now a.ends.now)) a.limit c.failing-f.ensures c.if-limit-f.true

pub returns-then-not-boxes_inside : goal.returns-then-not-boxes_inside
returns-then-not-boxes_inside c =
    let a = c.args in
    failed-boxes a.across a.down a.count a.boxes.now a.places.now (page_in a.columns a.changes.now a.ends.now) a.rows a.i
    (c.requires.rows_are ∙ sym (rows-length 0 a.changes.now a.ends.now)) a.limit c.boxes_inside.ensures (not-true _ c.if-not-boxes_inside.true-raw)

pub returns-then-not-places_inside : goal.returns-then-not-places_inside
returns-then-not-places_inside c =
    let a = c.args in
    failed-places a.across a.down a.count a.boxes.now a.places.now (page_in a.columns a.changes.now a.ends.now) a.rows a.i
    (c.requires.rows_are ∙ sym (rows-length 0 a.changes.now a.ends.now)) a.limit c.places_inside.ensures (not-true _ c.if-not-places_inside.true-raw)

pub returns : goal.returns
returns c =
    let a = c.args in
    failed-inside a.across a.down a.count a.boxes.now a.places.now (page_in a.columns a.changes.now a.ends.now) a.rows a.i
    (c.requires.rows_are ∙ sym (rows-length 0 a.changes.now a.ends.now)) a.limit c.boxes_inside.ensures (not-false _ c.if-not-boxes_inside.false-raw) c.places_inside.ensures (not-false _ c.if-not-places_inside.false-raw)
    c.failing-f.ensures
