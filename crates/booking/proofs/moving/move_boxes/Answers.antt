-- The invariant: the boxes that were moved stand in front of what was lent. Assumes nothing.
use Rattle.booking.proofs.Moved.{fours-next}
use Rattle.booking.specs.Found.{listed, moved_boxes}
use Rattle.rules.proofs.Store.{overlaid-nothing}
use lib.ListN.{length-set}
use native.Mathlib.Omega.{arith}
use mathlib.Core.Path.{◌≡◌, refl, sym}
use Rattle.booking.proofs.moving.move_boxes.Goals as goal

pub loop-k-init : goal.loop-k-init
unfolding listed
loop-k-init c = (omega arith, refl, sym (overlaid-nothing _))

pub overflow_mul-k : goal.overflow_mul-k
overflow_mul-k c = omega (arith, c.requires.0.long, c.loop-k.invariant.0)

pub box_at-requires : goal.box_at-requires
box_at-requires c = omega (arith, c.requires.0.long)

pub moved-b-requires : goal.moved-b-requires
moved-b-requires c = rw c.box_at.ensures (c.requires.0.each c.loop-k.k c.loop-k-test.true)

pub overflow_mul-out : goal.overflow_mul-out
overflow_mul-out c = omega (arith, c.requires.0.long, c.loop-k.invariant.0)

pub offset_bounds-out-k : goal.offset_bounds-out-k
offset_bounds-out-k c = omega (arith, c.requires.0.long, c.loop-k.invariant.0)

pub bounds-out-k : goal.bounds-out-k
bounds-out-k c = omega (arith, c.loop-k.invariant.1, c.requires.1)

pub overflow_mul-out-in-loop-k : goal.overflow_mul-out-in-loop-k
overflow_mul-out-in-loop-k c = omega (arith, c.requires.0.long, c.loop-k.invariant.0)

pub overflow_add-out : goal.overflow_add-out
overflow_add-out c = omega (arith, c.requires.0.long, c.loop-k.invariant.0)

pub offset_bounds-out-k-in-loop-k : goal.offset_bounds-out-k-in-loop-k
offset_bounds-out-k-in-loop-k c = omega (arith, c.requires.0.long, c.loop-k.invariant.0)

pub bounds-out-k-in-loop-k : goal.bounds-out-k-in-loop-k
bounds-out-k-in-loop-k c = simp length-set (omega (arith, c.loop-k.invariant.1, c.requires.1))

pub overflow_mul-out-in-loop-k-2 : goal.overflow_mul-out-in-loop-k-2
overflow_mul-out-in-loop-k-2 c = omega (arith, c.requires.0.long, c.loop-k.invariant.0)

pub overflow_add-out-in-loop-k : goal.overflow_add-out-in-loop-k
overflow_add-out-in-loop-k c = omega (arith, c.requires.0.long, c.loop-k.invariant.0)

pub offset_bounds-out-k-in-loop-k-2 : goal.offset_bounds-out-k-in-loop-k-2
offset_bounds-out-k-in-loop-k-2 c = omega (arith, c.requires.0.long, c.loop-k.invariant.0)

pub bounds-out-k-in-loop-k-2 : goal.bounds-out-k-in-loop-k-2
bounds-out-k-in-loop-k-2 c = simp length-set (omega (arith, c.loop-k.invariant.1, c.requires.1))

pub overflow_mul-out-in-loop-k-3 : goal.overflow_mul-out-in-loop-k-3
overflow_mul-out-in-loop-k-3 c = omega (arith, c.requires.0.long, c.loop-k.invariant.0)

pub overflow_add-out-in-loop-k-2 : goal.overflow_add-out-in-loop-k-2
overflow_add-out-in-loop-k-2 c = omega (arith, c.requires.0.long, c.loop-k.invariant.0)

pub offset_bounds-out-k-in-loop-k-3 : goal.offset_bounds-out-k-in-loop-k-3
offset_bounds-out-k-in-loop-k-3 c = omega (arith, c.requires.0.long, c.loop-k.invariant.0)

pub bounds-out-k-in-loop-k-3 : goal.bounds-out-k-in-loop-k-3
bounds-out-k-in-loop-k-3 c = simp length-set (omega (arith, c.loop-k.invariant.1, c.requires.1))

pub loop-k-preserved : goal.loop-k-preserved
loop-k-preserved c =
    let a = c.args in
    (omega arith, simp length-set c.loop-k.invariant.1, fours-next a.across a.down a.u a.v c.loop-k.k c.moved-b.ensures _ _ a.boxes.now c.box_at.ensures (omega (arith, c.requires.1)) c.loop-k.invariant.2)

pub shape_of-out : goal.shape_of-out
shape_of-out c = c.loop-k.invariant.1

pub returns : goal.returns
unfolding moved_boxes
returns c =
    let e : c.loop-k.k ≡ 20 = omega (arith, c.loop-k.invariant.0) in
    rw e at c.loop-k.invariant.2
