-- By what is found of the box, the row and its mark. Assumes nothing.
use mathlib.Core.Path.{◌∙◌}
use Rattle.booking.proofs.Resting.{mended-is}
use Rattle.booking.proofs.tests.mended.Goals as goal

pub returns : goal.returns
returns c =
    λ page s.
    let a = c.args in
    c.found.ensures ∙ mended-is a.columns a.marks.now a.boxes.now page s c.bad_box-k.ensures
    c.box_at-b.ensures c.bad_row-y.ensures c.mark_at-mark.ensures
