-- By the ticks of each column. Assumes nothing.
use mathlib.Core.Path.{◌∙◌}
use Rattle.heads.specs.Form.{page_in}
use Rattle.booking.proofs.Placed.{not-one-tens, not-one-units}
use Rattle.booking.proofs.tests.not_one.Goals as goal

pub returns-then-tens-ne1 : goal.returns-then-tens-ne1
returns-then-tens-ne1 c =
    let a = c.args in
    c.found.ensures ∙ not-one-tens (page_in a.columns a.changes.now a.ends.now) a.boxes.now a.tick c.ticks_in-tens.ensures
    c.if-tens-ne1.true

pub returns : goal.returns
returns c =
    let a = c.args in
    c.found-2.ensures ∙ not-one-units (page_in a.columns a.changes.now a.ends.now) a.boxes.now a.tick
    c.ticks_in-tens.ensures c.if-tens-ne1.false c.ticks_in-units.ensures
