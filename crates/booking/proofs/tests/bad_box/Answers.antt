-- The invariant: the first of those that are left is that of all. Assumes nothing.
use mathlib.Core.Path.{◌≡◌, ◌∙◌}
use native.Mathlib.Omega.{arith}
use Rattle.booking.specs.Testing.{box_touches}
use Rattle.booking.proofs.Firsts.{first-start, first_past, first-here, first_next}
use Rattle.booking.proofs.tests.bad_box.Goals as goal

pub loop-k-init : goal.loop-k-init
loop-k-init c = first-start _ _

pub overflow_mul-k : goal.overflow_mul-k
overflow_mul-k c = omega arith

pub box_at-requires : goal.box_at-requires
box_at-requires c = omega arith

pub returns-then-not-clean_under : goal.returns-then-not-clean_under
returns-then-not-clean_under c =
    let a = c.args in
    first-here (box_touches a.columns a.marks.now a.boxes.now) c.loop-k.k 20 c.loop-k-test.true
    (rw (← c.box_at.ensures, ← c.clean_under.ensures) c.if-not-clean_under.true-raw) ∙ c.loop-k.invariant

pub loop-k-preserved : goal.loop-k-preserved
loop-k-preserved c =
    let a = c.args in
    first_next (box_touches a.columns a.marks.now a.boxes.now) c.loop-k.k 20 c.loop-k-test.true
    (rw (← c.box_at.ensures, ← c.clean_under.ensures) c.if-not-clean_under.false-raw) ∙ c.loop-k.invariant

pub returns : goal.returns
returns c =
    let a = c.args in
    let e : 20 ≡ c.loop-k.k = omega arith in
    e ∙ first_past (box_touches a.columns a.marks.now a.boxes.now) c.loop-k.k 20 c.loop-k-test.false ∙ c.loop-k.invariant
