-- The invariant: the first of the boxes that are left is that of all. Assumes nothing.
use mathlib.Core.Path.{◌≡◌, refl, ◌∙◌}
use native.Mathlib.Omega.{arith}
use Rattle.heads.specs.Form.{page_in}
use Rattle.booking.specs.Testing.{doubts_at}
use Rattle.booking.proofs.Firsts.{first_past, first-here, first_next}
use Rattle.booking.proofs.tests.doubtful.Goals as goal

pub loop-k-init : goal.loop-k-init
loop-k-init c = refl

pub overflow_mul-k : goal.overflow_mul-k
overflow_mul-k c = omega arith

pub box_at-b-requires : goal.box_at-b-requires
box_at-b-requires c = omega arith

pub in_doubt-requires : goal.in_doubt-requires
in_doubt-requires c = c.requires.0

pub returns-then-in_doubt : goal.returns-then-in_doubt
returns-then-in_doubt c =
    let a = c.args in
    first-here (doubts_at (page_in a.columns a.changes.now a.ends.now) a.doubt a.tick a.boxes.now) c.loop-k.k 20
    c.loop-k-test.true (rw (← c.box_at-b.ensures, ← c.in_doubt.ensures) c.if-in_doubt.true) ∙ c.loop-k.invariant

pub loop-k-preserved : goal.loop-k-preserved
loop-k-preserved c =
    let a = c.args in
    first_next (doubts_at (page_in a.columns a.changes.now a.ends.now) a.doubt a.tick a.boxes.now) c.loop-k.k 20
    c.loop-k-test.true (rw (← c.box_at-b.ensures, ← c.in_doubt.ensures) c.if-in_doubt.false) ∙ c.loop-k.invariant

pub returns : goal.returns
returns c =
    let a = c.args in
    let e : 20 ≡ c.loop-k.k = omega arith in
    e ∙ first_past (doubts_at (page_in a.columns a.changes.now a.ends.now) a.doubt a.tick a.boxes.now) c.loop-k.k 20 c.loop-k-test.false ∙ c.loop-k.invariant
