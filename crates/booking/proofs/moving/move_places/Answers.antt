-- The invariant: the places that were moved stand in front of what was lent. Assumes nothing.
use Rattle.booking.proofs.Moved.{sevens-next}
use Rattle.booking.specs.Found.{listed, moved_places}
use Rattle.rules.proofs.Store.{overlaid-nothing}
use lib.ListN.{length-set}
use native.Mathlib.Omega.{arith}
use mathlib.Core.Path.{◌≡◌, refl, sym}
use Rattle.booking.proofs.moving.move_places.Goals as goal

pub loop-k-init : goal.loop-k-init
unfolding listed
loop-k-init c = (omega arith, refl, sym (overlaid-nothing _))

pub overflow_mul-k : goal.overflow_mul-k
overflow_mul-k c = omega (arith, c.requires.0.long, c.loop-k.invariant.0)

pub overflow_add-k : goal.overflow_add-k
overflow_add-k c = omega (arith, c.requires.0.long, c.loop-k.invariant.0)

pub box_at-requires : goal.box_at-requires
box_at-requires c = omega (arith, c.requires.0.long)

pub moved-b-requires : goal.moved-b-requires
moved-b-requires c = rw c.box_at.ensures (c.requires.0.each c.loop-k.k c.loop-k-test.true)

pub overflow_mul-out : goal.overflow_mul-out
overflow_mul-out c = omega (arith, c.requires.0.long, c.loop-k.invariant.0)

pub offset_bounds-places-k : goal.offset_bounds-places-k
offset_bounds-places-k c = omega (arith, c.requires.0.long, c.loop-k.invariant.0)

pub bounds-places-k : goal.bounds-places-k
bounds-places-k c = omega (arith, c.requires.0.long, c.loop-k.invariant.0)

pub overflow_mul-out-in-loop-k : goal.overflow_mul-out-in-loop-k
overflow_mul-out-in-loop-k c = omega (arith, c.requires.0.long, c.loop-k.invariant.0)

pub offset_bounds-out-k : goal.offset_bounds-out-k
offset_bounds-out-k c = omega (arith, c.requires.0.long, c.loop-k.invariant.0)

pub bounds-out-k : goal.bounds-out-k
bounds-out-k c = omega (arith, c.loop-k.invariant.1, c.requires.1)

pub overflow_mul-out-in-loop-k-2 : goal.overflow_mul-out-in-loop-k-2
overflow_mul-out-in-loop-k-2 c = omega (arith, c.requires.0.long, c.loop-k.invariant.0)

pub overflow_add-out : goal.overflow_add-out
overflow_add-out c = omega (arith, c.requires.0.long, c.loop-k.invariant.0)

pub offset_bounds-out-k-in-loop-k : goal.offset_bounds-out-k-in-loop-k
offset_bounds-out-k-in-loop-k c = omega (arith, c.requires.0.long, c.loop-k.invariant.0)

pub bounds-out-k-in-loop-k : goal.bounds-out-k-in-loop-k
bounds-out-k-in-loop-k c = simp length-set (omega (arith, c.loop-k.invariant.1, c.requires.1))

pub overflow_mul-out-in-loop-k-3 : goal.overflow_mul-out-in-loop-k-3
overflow_mul-out-in-loop-k-3 c = omega (arith, c.requires.0.long, c.loop-k.invariant.0)

pub overflow_add-out-in-loop-k : goal.overflow_add-out-in-loop-k
overflow_add-out-in-loop-k c = omega (arith, c.requires.0.long, c.loop-k.invariant.0)

pub offset_bounds-out-k-in-loop-k-2 : goal.offset_bounds-out-k-in-loop-k-2
offset_bounds-out-k-in-loop-k-2 c = omega (arith, c.requires.0.long, c.loop-k.invariant.0)

pub bounds-out-k-in-loop-k-2 : goal.bounds-out-k-in-loop-k-2
bounds-out-k-in-loop-k-2 c = simp length-set (omega (arith, c.loop-k.invariant.1, c.requires.1))

pub overflow_mul-out-in-loop-k-4 : goal.overflow_mul-out-in-loop-k-4
overflow_mul-out-in-loop-k-4 c = omega (arith, c.requires.0.long, c.loop-k.invariant.0)

pub overflow_add-out-in-loop-k-2 : goal.overflow_add-out-in-loop-k-2
overflow_add-out-in-loop-k-2 c = omega (arith, c.requires.0.long, c.loop-k.invariant.0)

pub offset_bounds-out-k-in-loop-k-3 : goal.offset_bounds-out-k-in-loop-k-3
offset_bounds-out-k-in-loop-k-3 c = omega (arith, c.requires.0.long, c.loop-k.invariant.0)

pub bounds-out-k-in-loop-k-3 : goal.bounds-out-k-in-loop-k-3
bounds-out-k-in-loop-k-3 c = simp length-set (omega (arith, c.loop-k.invariant.1, c.requires.1))

pub overflow_mul-out-in-loop-k-5 : goal.overflow_mul-out-in-loop-k-5
overflow_mul-out-in-loop-k-5 c = omega (arith, c.requires.0.long, c.loop-k.invariant.0)

pub overflow_add-out-in-loop-k-3 : goal.overflow_add-out-in-loop-k-3
overflow_add-out-in-loop-k-3 c = omega (arith, c.requires.0.long, c.loop-k.invariant.0)

pub offset_bounds-out-k-in-loop-k-4 : goal.offset_bounds-out-k-in-loop-k-4
offset_bounds-out-k-in-loop-k-4 c = omega (arith, c.requires.0.long, c.loop-k.invariant.0)

pub bounds-out-k-in-loop-k-4 : goal.bounds-out-k-in-loop-k-4
bounds-out-k-in-loop-k-4 c = simp length-set (omega (arith, c.loop-k.invariant.1, c.requires.1))

pub overflow_mul-out-in-loop-k-6 : goal.overflow_mul-out-in-loop-k-6
overflow_mul-out-in-loop-k-6 c = omega (arith, c.requires.0.long, c.loop-k.invariant.0)

pub overflow_add-out-in-loop-k-4 : goal.overflow_add-out-in-loop-k-4
overflow_add-out-in-loop-k-4 c = omega (arith, c.requires.0.long, c.loop-k.invariant.0)

pub offset_bounds-places-k-in-loop-k : goal.offset_bounds-places-k-in-loop-k
offset_bounds-places-k-in-loop-k c = omega (arith, c.requires.0.long, c.loop-k.invariant.0)

pub bounds-places-k-in-loop-k : goal.bounds-places-k-in-loop-k
bounds-places-k-in-loop-k c = omega (arith, c.requires.0.long, c.loop-k.invariant.0)

pub overflow_mul-out-in-loop-k-7 : goal.overflow_mul-out-in-loop-k-7
overflow_mul-out-in-loop-k-7 c = omega (arith, c.requires.0.long, c.loop-k.invariant.0)

pub overflow_add-out-in-loop-k-5 : goal.overflow_add-out-in-loop-k-5
overflow_add-out-in-loop-k-5 c = omega (arith, c.requires.0.long, c.loop-k.invariant.0)

pub offset_bounds-out-k-in-loop-k-5 : goal.offset_bounds-out-k-in-loop-k-5
offset_bounds-out-k-in-loop-k-5 c = omega (arith, c.requires.0.long, c.loop-k.invariant.0)

pub bounds-out-k-in-loop-k-5 : goal.bounds-out-k-in-loop-k-5
bounds-out-k-in-loop-k-5 c = simp length-set (omega (arith, c.loop-k.invariant.1, c.requires.1))

pub overflow_mul-out-in-loop-k-8 : goal.overflow_mul-out-in-loop-k-8
overflow_mul-out-in-loop-k-8 c = omega (arith, c.requires.0.long, c.loop-k.invariant.0)

pub overflow_add-out-in-loop-k-6 : goal.overflow_add-out-in-loop-k-6
overflow_add-out-in-loop-k-6 c = omega (arith, c.requires.0.long, c.loop-k.invariant.0)

pub offset_bounds-places-k-in-loop-k-2 : goal.offset_bounds-places-k-in-loop-k-2
offset_bounds-places-k-in-loop-k-2 c = omega (arith, c.requires.0.long, c.loop-k.invariant.0)

pub bounds-places-k-in-loop-k-2 : goal.bounds-places-k-in-loop-k-2
bounds-places-k-in-loop-k-2 c = omega (arith, c.requires.0.long, c.loop-k.invariant.0)

pub overflow_mul-out-in-loop-k-9 : goal.overflow_mul-out-in-loop-k-9
overflow_mul-out-in-loop-k-9 c = omega (arith, c.requires.0.long, c.loop-k.invariant.0)

pub overflow_add-out-in-loop-k-7 : goal.overflow_add-out-in-loop-k-7
overflow_add-out-in-loop-k-7 c = omega (arith, c.requires.0.long, c.loop-k.invariant.0)

pub offset_bounds-out-k-in-loop-k-6 : goal.offset_bounds-out-k-in-loop-k-6
offset_bounds-out-k-in-loop-k-6 c = omega (arith, c.requires.0.long, c.loop-k.invariant.0)

pub bounds-out-k-in-loop-k-6 : goal.bounds-out-k-in-loop-k-6
bounds-out-k-in-loop-k-6 c = simp length-set (omega (arith, c.loop-k.invariant.1, c.requires.1))

pub loop-k-preserved : goal.loop-k-preserved
loop-k-preserved c =
    let a = c.args in
    (omega arith, simp length-set c.loop-k.invariant.1, sevens-next a.across a.down a.u a.v c.loop-k.k c.moved-b.ensures _ _ a.places.now c.box_at.ensures (omega (arith, c.requires.1)) c.loop-k.invariant.2)

pub shape_of-out : goal.shape_of-out
shape_of-out c = c.loop-k.invariant.1

pub returns : goal.returns
unfolding moved_places
returns c =
    let e : c.loop-k.k ≡ c.args.count = omega (arith, c.loop-k.invariant.0) in
    rw e at c.loop-k.invariant.2
