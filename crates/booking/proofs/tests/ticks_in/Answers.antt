-- The invariant: the ticks that are counted, and those that are left, are all of them. Assumes nothing.
use native.Mathlib.Omega.{arith}
use Rattle.heads.specs.Form.{page_in}
use Rattle.booking.specs.Testing.{ticked_at}
use Rattle.booking.proofs.Firsts.{count_past, count-here, count_next}
use Rattle.booking.proofs.Placed.{ticked, unticked}
use Rattle.booking.proofs.tests.ticks_in.Goals.{then-tick-in_box, else-tick-in_box}
use Rattle.booking.proofs.tests.ticks_in.Goals as goal

pub loop-d-init : goal.loop-d-init
loop-d-init c = (omega arith, omega arith)

pub overflow_mul-d : goal.overflow_mul-d
overflow_mul-d c = omega arith

pub overflow_add-d : goal.overflow_add-d
overflow_add-d c = omega arith

pub overflow_mul-d-in-loop-d : goal.overflow_mul-d-in-loop-d
overflow_mul-d-in-loop-d c = omega arith

pub box_at-b-requires : goal.box_at-b-requires
box_at-b-requires c = omega arith

pub in_box-requires : goal.in_box-requires
in_box-requires c = c.requires.0

pub overflow_add-n : goal.overflow_add-n
overflow_add-n c = omega arith

pub loop-d-preserved : goal.loop-d-preserved
loop-d-preserved c =
    let a = c.args in
    let page = page_in a.columns a.changes.now a.ends.now in
    let test = ticked_at page a.boxes.now a.tick a.column in (
      elim c.if-tick-in_box.branch [ then-tick-in_box w ↦ omega arith | else-tick-in_box w ↦ omega arith ],
      elim c.if-tick-in_box.branch [
        | then-tick-in_box w ↦
            count-here test c.loop-d.d 10 c.loop-d.n c.loop-d.invariant.1 c.loop-d-test.true
            (ticked page a.boxes.now a.tick a.column c.loop-d.d c.in_box.ensures c.box_at-b.ensures w.if-tick-in_box.true) w.n-is
        | else-tick-in_box w ↦
            count_next test c.loop-d.d 10 c.loop-d.n c.loop-d.invariant.1 c.loop-d-test.true
            (unticked page a.boxes.now a.tick a.column c.loop-d.d c.in_box.ensures c.box_at-b.ensures w.if-tick-in_box.false) w.n-is
      ],
    )

pub returns : goal.returns
returns c =
    let a = c.args in
    count_past (ticked_at (page_in a.columns a.changes.now a.ends.now) a.boxes.now a.tick a.column) c.loop-d.d 10 c.loop-d.n
    c.loop-d.invariant.1 c.loop-d-test.false
