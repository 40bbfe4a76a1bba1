-- An offset that does not fit, one that is not counted, and one that is. Assumes nothing.
use Rattle.booking.proofs.Looking.{seekable, lying, fits-inside, differs-heads}
use Rattle.heads.specs.Form.{page_in}
use borrow.Author.Tests.{eq-eqb}
use native.Mathlib.Omega.{arith}
use mathlib.Core.Bool.{not}
use mathlib.Core.Path.{refl, sym, ap, ◌∙◌}
use Rattle.booking.proofs.found.differs.Goals as goal

pub fits_at-requires : goal.fits_at-requires
fits_at-requires c =
    let a = c.args in
    seekable a.columns a.rows a.changes.now a.ends.now a.marks.now a.form a.boxes.now a.places.now c.requires

pub found_at-f-requires : goal.found_at-f-requires
found_at-f-requires c =
    let a = c.args in
    lying a.columns a.rows a.changes.now a.ends.now a.marks.now a.form a.boxes.now a.places.now c.requires (omega arith) a.i
    (fits-inside a.form.across a.form.down a.form.places a.boxes.now a.places.now (page_in a.columns a.changes.now a.ends.now) a.i (sym c.in_ok-fits_at.ensures))

pub returns : goal.returns
returns c =
    let a = c.args in
    sym (ap not (eq-eqb _ _ c.if-f-heads.false))
    ∙ differs-heads a.form a.boxes.now a.places.now a.encoding (page_in a.columns a.changes.now a.ends.now) a.marks.now a.i a.heads c.in_ok-fits_at.ensures refl c.found_at-f.ensures c.if-f-ne-COMPLETE.false
