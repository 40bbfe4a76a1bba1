-- The invariant: the first of the offsets that are left is that of all. Assumes nothing.
use Rattle.booking.proofs.Firsts.{first_over, first-here, first_next}
use Rattle.booking.specs.Found.{differs}
use Rattle.heads.specs.Form.{page_in}
use mathlib.Core.Path.{refl, sym, ◌∙◌}
use Rattle.booking.proofs.found.other_fit.Goals as goal

pub loop-i-init : goal.loop-i-init
loop-i-init c = refl

pub differs-t-requires : goal.differs-t-requires
differs-t-requires c = c.requires

pub returns-in-Ok : goal.returns-in-Ok
returns-in-Ok c =
    let a = c.args in
    first-here (differs a.form a.boxes.now a.places.now a.encoding (page_in a.columns a.changes.now a.ends.now) a.marks.now a.heads) c.loop-i.i a.offsets c.loop-i-test.true
    (sym (rw c.in-Ok.is at c.differs-t.ensures)) ∙ c.loop-i.invariant

pub loop-i-preserved : goal.loop-i-preserved
loop-i-preserved c =
    let a = c.args in
    first_next (differs a.form a.boxes.now a.places.now a.encoding (page_in a.columns a.changes.now a.ends.now) a.marks.now a.heads) c.loop-i.i a.offsets c.loop-i-test.true
    (sym (rw c.in-Err.is at c.differs-t.ensures)) ∙ c.loop-i.invariant

pub returns : goal.returns
returns c =
    let a = c.args in
    first_over (differs a.form a.boxes.now a.places.now a.encoding (page_in a.columns a.changes.now a.ends.now) a.marks.now a.heads) c.loop-i.i a.offsets a.from c.max.ensures c.loop-i-test.false c.loop-i.auto.i-end c.loop-i.invariant
