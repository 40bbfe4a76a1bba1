-- Each return is one arm of the definition. Assumes nothing.
use Rattle.booking.proofs.Looking.{can-is, offsets-few, seekable, lying, first-inside, looked-fails, looked-behind, looked-nowhere, best-is, looked-best}
use Rattle.heads.specs.Form.{page_in}
use native.Mathlib.Omega.{arith}
use mathlib.Core.Path.{◌≡◌, refl, ◌∙◌}
use Rattle.booking.proofs.found.looked_for.Reads as reads
use Rattle.booking.proofs.found.looked_for.Lts as lts
use Rattle.booking.proofs.found.best_fit.Reads as best-fit-reads
use Rattle.booking.proofs.found.first_fit.Reads as first-fit-reads
use Rattle.booking.proofs.found.found_at.Reads as found-at-reads
use Rattle.booking.proofs.found.found_behind.Reads as found-behind-reads
use Rattle.booking.proofs.tests.plainly.Reads as plainly-reads
use Rattle.booking.proofs.found.looked_for.Goals as goal

pub overflow_mul-offsets : goal.overflow_mul-offsets
overflow_mul-offsets c = let k = can-is c.args.form c.args.boxes.now c.args.places.now c.requires.can in omega (arith, k.aside)

pub overflow_add-offsets : goal.overflow_add-offsets
overflow_add-offsets c = let k = can-is c.args.form c.args.boxes.now c.args.places.now c.requires.can in omega (arith, k.aside)

pub overflow_mul-offsets-2 : goal.overflow_mul-offsets-2
overflow_mul-offsets-2 c = let k = can-is c.args.form c.args.boxes.now c.args.places.now c.requires.can in omega (arith, k.away)

pub overflow_add-offsets-2 : goal.overflow_add-offsets-2
overflow_add-offsets-2 c = let k = can-is c.args.form c.args.boxes.now c.args.places.now c.requires.can in omega (arith, k.away)

pub overflow_mul-offsets-3 : goal.overflow_mul-offsets-3
overflow_mul-offsets-3 c = let k = can-is c.args.form c.args.boxes.now c.args.places.now c.requires.can in omega (arith, offsets-few c.args.form.across c.args.form.down k.aside k.away)

pub first_fit-i-requires : goal.first_fit-i-requires
first_fit-i-requires c = let a = c.args in seekable a.columns a.rows a.changes.now a.ends.now a.marks.now a.form a.boxes.now a.places.now c.requires

pub found_at-f-requires : goal.found_at-f-requires
found_at-f-requires c =
    let a = c.args in
    lying a.columns a.rows a.changes.now a.ends.now a.marks.now a.form a.boxes.now a.places.now c.requires (omega arith) _
    (first-inside a.form a.boxes.now a.places.now a.encoding (page_in a.columns a.changes.now a.ends.now) a.marks.now _ c.first_fit-i.ensures c.if-i-offsets.true)

pub returns-then-f-ne-COMPLETE : goal.returns-then-f-ne-COMPLETE
returns-then-f-ne-COMPLETE c =
    let a = c.args in
    looked-fails a.form a.boxes.now a.places.now a.encoding (page_in a.columns a.changes.now a.ends.now) a.marks.now _ c.first_fit-i.ensures c.if-i-offsets.true _ c.found_at-f.ensures c.if-f-ne-COMPLETE.true

pub found_behind-requires : goal.found_behind-requires
found_behind-requires c = (c.requires, refl, c.if-i-offsets.true, c.found_at-f.ensures)

pub returns-then-i-offsets : goal.returns-then-i-offsets
returns-then-i-offsets c =
    let a = c.args in
    c.found_behind.ensures
    ∙ looked-behind a.form a.boxes.now a.places.now a.encoding (page_in a.columns a.changes.now a.ends.now) a.marks.now _ c.first_fit-i.ensures c.if-i-offsets.true _ c.found_at-f.ensures c.if-f-ne-COMPLETE.false

pub best_fit-i-requires : goal.best_fit-i-requires
best_fit-i-requires c = let a = c.args in seekable a.columns a.rows a.changes.now a.ends.now a.marks.now a.form a.boxes.now a.places.now c.requires

pub returns-then-offsets-i : goal.returns-then-offsets-i
returns-then-offsets-i c =
    let a = c.args in
    c.plainly.ensures
    ∙ looked-nowhere a.form a.boxes.now a.places.now a.encoding (page_in a.columns a.changes.now a.ends.now) a.marks.now _ c.first_fit-i.ensures c.if-i-offsets.false _ c.best_fit-i.ensures c.if-offsets-i.true

pub found_at-requires : goal.found_at-requires
found_at-requires c =
    let a = c.args in
    lying a.columns a.rows a.changes.now a.ends.now a.marks.now a.form a.boxes.now a.places.now c.requires (omega arith) _
    (best-is a.form a.boxes.now a.places.now a.encoding (page_in a.columns a.changes.now a.ends.now) a.marks.now _ c.first_fit-i.ensures c.if-i-offsets.false _ c.best_fit-i.ensures c.if-offsets-i.false)

pub returns : goal.returns
returns c =
    let a = c.args in
    c.found_at.ensures
    ∙ looked-best a.form a.boxes.now a.places.now a.encoding (page_in a.columns a.changes.now a.ends.now) a.marks.now _ c.first_fit-i.ensures c.if-i-offsets.false _ c.best_fit-i.ensures c.if-offsets-i.false
