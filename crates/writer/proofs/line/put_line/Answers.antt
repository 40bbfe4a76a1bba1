-- `writer::line::put_line` meets its contract. The loop's invariant, `Going`: the codes that are left come to the line, and `above` is b1's place.
-- It holds in a turn's middle too, behind the ones. What is left of the line falls. Assumes nothing.
use Prim.Native.Nat.{◌+◌}
use native.Mathlib.Omega.{arith}
use Rattle.writer.proofs.LineLoop.{begin, ended, few, all-inside, many, ones-room, ones-on, turn-room, turn-code}
use Rattle.writer.proofs.LineLoop.{low, passing, pass-put, nearing, turning, vertical-put, second-low, crossing, going_on, horizontal-put}
use Rattle.writer.proofs.line.put_line.Goals as goal

pub loop-position-init : goal.loop-position-init
loop-position-init c = begin _ c.requires.1

pub alike-k-requires : goal.alike-k-requires
alike-k-requires c =
    let f = few c.loop-position.invariant c.requires.1 in
    (omega (arith, f.0), omega (arith, f.1))

pub put_ones-next-requires : goal.put_ones-next-requires
put_ones-next-requires c =
    let l = c.requires.1 in
    (c.alike-k.ensures.few, ones-room c.loop-position.invariant l _ c.loop-position-test.true c.alike-k.ensures)

pub last_of-position-requires : goal.last_of-position-requires
last_of-position-requires c =
    let l = c.requires.1 in
    all-inside c.loop-position.invariant l _ c.loop-position-test.true c.alike-k.ensures

pub overflow_add-above : goal.overflow_add-above
overflow_add-above c =
    let l = c.requires.1 in
    let g = ones-on c.loop-position.invariant l _ c.loop-position-test.true c.alike-k.ensures c.last_of-position.ensures c.put_ones-next.ensures in
    record { fits = omega (arith, (few g l).0) }

pub overflow_add-place : goal.overflow_add-place
overflow_add-place c =
    let l = c.requires.1 in
    let g = ones-on c.loop-position.invariant l _ c.loop-position-test.true c.alike-k.ensures c.last_of-position.ensures c.put_ones-next.ensures in
    record { fits = omega (arith, (few g l).1) }

pub overflow_add-above-in-loop-position : goal.overflow_add-above-in-loop-position
overflow_add-above-in-loop-position c =
    let l = c.requires.1 in
    let g = ones-on c.loop-position.invariant l _ c.loop-position-test.true c.alike-k.ensures c.last_of-position.ensures c.put_ones-next.ensures in
    record { fits = omega (arith, (few g l).0) }

pub put-next-requires : goal.put-next-requires
put-next-requires c =
    let l = c.requires.1 in
    let n = many c.loop-position.invariant l _ c.loop-position-test.true c.alike-k.ensures c.last_of-position.ensures in
    let g = ones-on c.loop-position.invariant l _ c.loop-position-test.true c.alike-k.ensures c.last_of-position.ensures c.put_ones-next.ensures in
    turn-code g l (c.loop-position.place + c.alike-k.result) (passing g l n.below c.change_or-a1.ensures c.change_or-b1.ensures c.change_or-b2.ensures c.if-b2-a1.true) c.pass.ensures

pub overflow_add-above-then-b2-a1 : goal.overflow_add-above-then-b2-a1
overflow_add-above-then-b2-a1 c =
    let l = c.requires.1 in
    let g = ones-on c.loop-position.invariant l _ c.loop-position-test.true c.alike-k.ensures c.last_of-position.ensures c.put_ones-next.ensures in
    record { fits = omega (arith, (few g l).0) }

pub loop-position-smaller-then-b2-a1 : goal.loop-position-smaller-then-b2-a1
loop-position-smaller-then-b2-a1 c =
    let l = c.requires.1 in
    let n = many c.loop-position.invariant l _ c.loop-position-test.true c.alike-k.ensures c.last_of-position.ensures in
    let g = ones-on c.loop-position.invariant l _ c.loop-position-test.true c.alike-k.ensures c.last_of-position.ensures c.put_ones-next.ensures in
    omega (arith, (passing g l n.below c.change_or-a1.ensures c.change_or-b1.ensures c.change_or-b2.ensures c.if-b2-a1.true).less, n.less)

pub loop-position-preserved-then-b2-a1 : goal.loop-position-preserved-then-b2-a1
loop-position-preserved-then-b2-a1 c =
    let l = c.requires.1 in
    let n = many c.loop-position.invariant l _ c.loop-position-test.true c.alike-k.ensures c.last_of-position.ensures in
    let g = ones-on c.loop-position.invariant l _ c.loop-position-test.true c.alike-k.ensures c.last_of-position.ensures c.put_ones-next.ensures in
    pass-put g l n.below c.change_or-a1.ensures c.change_or-b1.ensures c.change_or-b2.ensures c.if-b2-a1.true c.pass.ensures c.put-next.ensures

pub vertical-requires : goal.vertical-requires
vertical-requires c = rw c.distance-d.ensures at c.if-d-le3.true

pub put-next-requires-then-d-le3 : goal.put-next-requires-then-d-le3
put-next-requires-then-d-le3 c =
    let l = c.requires.1 in
    let n = many c.loop-position.invariant l _ c.loop-position-test.true c.alike-k.ensures c.last_of-position.ensures in
    let g = ones-on c.loop-position.invariant l _ c.loop-position-test.true c.alike-k.ensures c.last_of-position.ensures c.put_ones-next.ensures in
    let near = rw c.distance-d.ensures at c.if-d-le3.true in
    turn-code g l (c.loop-position.place + c.alike-k.result + 1) (nearing g l n.below c.change_or-a1.ensures c.change_or-b1.ensures c.change_or-b2.ensures c.if-b2-a1.false near) c.vertical.ensures

pub overflow_cast-d : goal.overflow_cast-d
overflow_cast-d c = record { fits = omega (arith, c.if-d-le3.true) }

pub behind-above-requires : goal.behind-above-requires
behind-above-requires c =
    let l = c.requires.1 in
    let n = many c.loop-position.invariant l _ c.loop-position-test.true c.alike-k.ensures c.last_of-position.ensures in
    let g = ones-on c.loop-position.invariant l _ c.loop-position-test.true c.alike-k.ensures c.last_of-position.ensures c.put_ones-next.ensures in
    let near = rw c.distance-d.ensures at c.if-d-le3.true in
    turning g l n.below c.change_or-a1.ensures c.change_or-b1.ensures c.change_or-b2.ensures c.if-b2-a1.false near c.distance-d.ensures

pub overflow_add-place-then-d-le3 : goal.overflow_add-place-then-d-le3
overflow_add-place-then-d-le3 c =
    let l = c.requires.1 in
    let g = ones-on c.loop-position.invariant l _ c.loop-position-test.true c.alike-k.ensures c.last_of-position.ensures c.put_ones-next.ensures in
    record { fits = omega (arith, (few g l).1) }

pub loop-position-smaller-then-d-le3 : goal.loop-position-smaller-then-d-le3
loop-position-smaller-then-d-le3 c =
    let l = c.requires.1 in
    let n = many c.loop-position.invariant l _ c.loop-position-test.true c.alike-k.ensures c.last_of-position.ensures in
    let g = ones-on c.loop-position.invariant l _ c.loop-position-test.true c.alike-k.ensures c.last_of-position.ensures c.put_ones-next.ensures in
    let near = rw c.distance-d.ensures at c.if-d-le3.true in
    omega (arith, (nearing g l n.below c.change_or-a1.ensures c.change_or-b1.ensures c.change_or-b2.ensures c.if-b2-a1.false near).less, n.less)

pub loop-position-preserved-then-d-le3 : goal.loop-position-preserved-then-d-le3
loop-position-preserved-then-d-le3 c =
    let l = c.requires.1 in
    let n = many c.loop-position.invariant l _ c.loop-position-test.true c.alike-k.ensures c.last_of-position.ensures in
    let g = ones-on c.loop-position.invariant l _ c.loop-position-test.true c.alike-k.ensures c.last_of-position.ensures c.put_ones-next.ensures in
    let near = rw c.distance-d.ensures at c.if-d-le3.true in
    vertical-put g l n.below c.change_or-a1.ensures c.change_or-b1.ensures c.change_or-b2.ensures c.if-b2-a1.false near c.behind-above.ensures
    c.vertical.ensures c.put-next-then-d-le3.ensures

pub overflow_add-place-in-loop-position : goal.overflow_add-place-in-loop-position
overflow_add-place-in-loop-position c =
    let l = c.requires.1 in
    let g = ones-on c.loop-position.invariant l _ c.loop-position-test.true c.alike-k.ensures c.last_of-position.ensures c.put_ones-next.ensures in
    record { fits = omega (arith, (few g l).1) }

pub overflow_sub-first : goal.overflow_sub-first
overflow_sub-first c =
    let l = c.requires.1 in
    let n = many c.loop-position.invariant l _ c.loop-position-test.true c.alike-k.ensures c.last_of-position.ensures in
    let g = ones-on c.loop-position.invariant l _ c.loop-position-test.true c.alike-k.ensures c.last_of-position.ensures c.put_ones-next.ensures in
    low g l n.below c.change_or-a1.ensures c.change_or-b1.ensures c.change_or-b2.ensures

pub overflow_sub-second : goal.overflow_sub-second
overflow_sub-second c =
    let l = c.requires.1 in
    let n = many c.loop-position.invariant l _ c.loop-position-test.true c.alike-k.ensures c.last_of-position.ensures in
    let g = ones-on c.loop-position.invariant l _ c.loop-position-test.true c.alike-k.ensures c.last_of-position.ensures c.put_ones-next.ensures in
    let far = rw c.distance-d.ensures at c.if-d-le3.false in
    second-low g l n.below c.change_or-a1.ensures c.change_or-b1.ensures c.change_or-b2.ensures c.if-b2-a1.false far c.change_or-a2.ensures

pub overflow_cast-colour : goal.overflow_cast-colour
overflow_cast-colour c = record { fits = omega arith }

pub put_horizontal-next-requires : goal.put_horizontal-next-requires
put_horizontal-next-requires c =
    let l = c.requires.1 in
    let n = many c.loop-position.invariant l _ c.loop-position-test.true c.alike-k.ensures c.last_of-position.ensures in
    let g = ones-on c.loop-position.invariant l _ c.loop-position-test.true c.alike-k.ensures c.last_of-position.ensures c.put_ones-next.ensures in
    let far = rw c.distance-d.ensures at c.if-d-le3.false in
    let turn = crossing g l n.below c.change_or-a1.ensures c.change_or-b1.ensures c.change_or-b2.ensures c.if-b2-a1.false far c.change_or-a2.ensures in
    (c.requires.0, omega arith, turn-room g l (c.loop-position.place + c.alike-k.result + 2) turn)

pub onward-above-requires : goal.onward-above-requires
onward-above-requires c =
    let l = c.requires.1 in
    let n = many c.loop-position.invariant l _ c.loop-position-test.true c.alike-k.ensures c.last_of-position.ensures in
    let g = ones-on c.loop-position.invariant l _ c.loop-position-test.true c.alike-k.ensures c.last_of-position.ensures c.put_ones-next.ensures in
    let far = rw c.distance-d.ensures at c.if-d-le3.false in
    going_on g l n.below c.change_or-a1.ensures c.change_or-b1.ensures c.change_or-b2.ensures c.if-b2-a1.false far c.change_or-a2.ensures

pub overflow_add-place-in-loop-position-2 : goal.overflow_add-place-in-loop-position-2
overflow_add-place-in-loop-position-2 c =
    let l = c.requires.1 in
    let g = ones-on c.loop-position.invariant l _ c.loop-position-test.true c.alike-k.ensures c.last_of-position.ensures c.put_ones-next.ensures in
    record { fits = omega (arith, (few g l).1) }

pub loop-position-smaller : goal.loop-position-smaller
loop-position-smaller c =
    let l = c.requires.1 in
    let n = many c.loop-position.invariant l _ c.loop-position-test.true c.alike-k.ensures c.last_of-position.ensures in
    let g = ones-on c.loop-position.invariant l _ c.loop-position-test.true c.alike-k.ensures c.last_of-position.ensures c.put_ones-next.ensures in
    let far = rw c.distance-d.ensures at c.if-d-le3.false in
    omega (arith, (crossing g l n.below c.change_or-a1.ensures c.change_or-b1.ensures c.change_or-b2.ensures c.if-b2-a1.false far c.change_or-a2.ensures).less, n.less)

pub loop-position-preserved : goal.loop-position-preserved
loop-position-preserved c =
    let l = c.requires.1 in
    let n = many c.loop-position.invariant l _ c.loop-position-test.true c.alike-k.ensures c.last_of-position.ensures in
    let g = ones-on c.loop-position.invariant l _ c.loop-position-test.true c.alike-k.ensures c.last_of-position.ensures c.put_ones-next.ensures in
    let far = rw c.distance-d.ensures at c.if-d-le3.false in
    horizontal-put g l n.below c.change_or-a1.ensures c.change_or-b1.ensures c.change_or-b2.ensures c.if-b2-a1.false far
    c.change_or-a2.ensures c.onward-above.ensures c.put_horizontal-next.ensures

pub shape_of-out : goal.shape_of-out
shape_of-out c = c.loop-position.invariant.owes.size

pub returns : goal.returns
returns c = ended c.loop-position.invariant c.requires.1 c.loop-position-test.false
