-- A box right of the page, and any other. Assumes nothing.
use mathlib.Core.Path.{◌∙◌}
use Rattle.heads.specs.Form.{page_in}
use Rattle.heads.proofs.Pixelled.{box-right, box_rows}
use Rattle.heads.proofs.count.in_box.Goals as goal

pub returns-then-right-b : goal.returns-then-right-b
returns-then-right-b c =
    box-right (page_in c.args.columns c.args.changes.now c.args.ends.now) c.args.b (rw c.clip-right.ensures at c.if-right-b.true)

pub returns : goal.returns
returns c =
    c.in_rows.ensures ∙ rw c.clip-right.ensures
    (box_rows (page_in c.args.columns c.args.changes.now c.args.ends.now) c.args.b (rw c.clip-right.ensures at c.if-right-b.false))
