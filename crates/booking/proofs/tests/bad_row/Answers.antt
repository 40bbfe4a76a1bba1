-- The invariant: the first of the rows that are left is that of all. Assumes nothing.
use mathlib.Core.Path.{refl, sym, ◌∙◌}
use Rattle.booking.specs.Testing.{unclean_at}
use Rattle.booking.proofs.Firsts.{first_over, first-here, first_next}
use Rattle.booking.proofs.Unclean.{unclean-mark, clean-mark}
use Rattle.booking.proofs.tests.bad_row.Goals as goal

pub loop-y-init : goal.loop-y-init
loop-y-init c = refl

pub returns-then-mark_at-ne0 : goal.returns-then-mark_at-ne0
returns-then-mark_at-ne0 c =
    let a = c.args in
    first-here (unclean_at a.marks.now) c.loop-y.y a.bottom c.loop-y-test.true
    (unclean-mark a.marks.now c.loop-y.y (λ z. c.if-mark_at-ne0.true (c.mark_at.ensures ∙ z))) ∙ c.loop-y.invariant

pub loop-y-preserved : goal.loop-y-preserved
loop-y-preserved c =
    let a = c.args in
    first_next (unclean_at a.marks.now) c.loop-y.y a.bottom c.loop-y-test.true
    (clean-mark a.marks.now c.loop-y.y (sym c.mark_at.ensures ∙ c.if-mark_at-ne0.false)) ∙ c.loop-y.invariant

pub returns : goal.returns
returns c =
    let a = c.args in
    first_over (unclean_at a.marks.now) c.loop-y.y a.bottom a.top c.max.ensures c.loop-y-test.false c.loop-y.auto.y-end c.loop-y.invariant
