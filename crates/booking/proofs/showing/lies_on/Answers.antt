-- Each return is one arm of the definition. Assumes nothing.
use Rattle.booking.proofs.Lying.{lies-first, lies-best, lies-nowhere}
use Rattle.booking.proofs.Looking.{offsets-few}
use Rattle.heads.specs.Form.{page_in}
use native.Mathlib.Omega.{arith}
use mathlib.Core.Path.{◌≡◌, ◌∙◌}
use Rattle.booking.proofs.showing.lies_on.Reads as reads
use Rattle.booking.proofs.showing.lies_on.Lts as lts
use Rattle.booking.proofs.found.best_fit.Reads as best-fit-reads
use Rattle.booking.proofs.found.first_fit.Reads as first-fit-reads
use Rattle.booking.proofs.showing.lies_by.Reads as lies-by-reads
use Rattle.booking.proofs.showing.lies_still.Reads as lies-still-reads
use Rattle.booking.proofs.showing.lies_on.Goals as goal

pub overflow_mul-offsets-2 : goal.overflow_mul-offsets-2
overflow_mul-offsets-2 c = omega (arith, offsets-few c.args.form.across c.args.form.down c.requires.0.near c.requires.1)

pub returns-then-i-offsets : goal.returns-then-i-offsets
returns-then-i-offsets c =
    let a = c.args in
    c.lies_by.ensures ∙ lies-first a.form a.boxes.now a.places.now (page_in a.columns a.changes.now a.ends.now) _ c.first_fit-i.ensures c.if-i-offsets.true

pub returns-then-i-offsets-2 : goal.returns-then-i-offsets-2
returns-then-i-offsets-2 c =
    let a = c.args in
    c.lies_by-then-i-offsets-2.ensures ∙ lies-best a.form a.boxes.now a.places.now (page_in a.columns a.changes.now a.ends.now) _ c.first_fit-i.ensures c.if-i-offsets.false _ c.best_fit-i.ensures c.if-i-offsets-2.true

pub returns : goal.returns
returns c =
    let a = c.args in
    c.lies_still.ensures ∙ lies-nowhere a.form a.boxes.now a.places.now (page_in a.columns a.changes.now a.ends.now) _ c.first_fit-i.ensures c.if-i-offsets.false _ c.best_fit-i.ensures c.if-i-offsets-2.false
