-- By the first place that is wrong, the first box in doubt, and the number. Assumes nothing.
use mathlib.Core.Path.{◌∙◌}
use Rattle.heads.specs.Form.{page_in}
use Rattle.booking.proofs.Tested.{stands-wrong, stands-doubt, stands-not-one, stands-counted}
use Rattle.booking.proofs.tests.standing.Goals as goal

pub returns-then-k-count : goal.returns-then-k-count
returns-then-k-count c =
    let a = c.args in
    c.wrong_at.ensures ∙ stands-wrong a.form a.boxes.now a.places.now (page_in a.columns a.changes.now a.ends.now) a.said a.heads
    c.wrong_place-k.ensures c.if-k-count.true

pub returns-then-k-lt20 : goal.returns-then-k-lt20
returns-then-k-lt20 c =
    let a = c.args in
    c.found.ensures ∙ stands-doubt a.form a.boxes.now a.places.now (page_in a.columns a.changes.now a.ends.now) a.said a.heads
    c.wrong_place-k.ensures c.if-k-count.false
    c.doubtful-k.ensures c.if-k-lt20.true c.box_at.ensures c.in_box-black.ensures

pub returns-then-said-ne-COMPLETE : goal.returns-then-said-ne-COMPLETE
returns-then-said-ne-COMPLETE c =
    let a = c.args in
    c.not_one.ensures ∙ stands-not-one a.form a.boxes.now a.places.now (page_in a.columns a.changes.now a.ends.now) a.said a.heads
    c.wrong_place-k.ensures c.if-k-count.false
    c.doubtful-k.ensures c.if-k-lt20.false c.if-said-ne-COMPLETE.true

pub returns : goal.returns
returns c =
    let a = c.args in
    c.counted.ensures ∙ stands-counted a.form a.boxes.now a.places.now (page_in a.columns a.changes.now a.ends.now) a.said a.heads
    c.wrong_place-k.ensures c.if-k-count.false
    c.doubtful-k.ensures c.if-k-lt20.false c.if-said-ne-COMPLETE.false
