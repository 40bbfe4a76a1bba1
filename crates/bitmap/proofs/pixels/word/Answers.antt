-- `bitmap::pixels::word` meets its contract. The invariant is `Taken`: the pixels of the changes that are taken. Assumes nothing.
use native.Mathlib.Omega.{arith}
use native.Mathlib.Numerals.{add-one}
use Rattle.bitmap.proofs.Colours.{taken_none, taken_next, takes-turn, has-far, has_all}
use Rattle.bitmap.proofs.pixels.word.Goals as goal

pub loop-next-init : goal.loop-next-init
loop-next-init c = taken_none c.requires.0 c.flat-bits.ensures

pub overflow_cast-x : goal.overflow_cast-x
overflow_cast-x c = record { fits = omega (arith, c.type_inv.row c.loop-next.next) }

pub returns-then-end-x : goal.returns-then-end-x
returns-then-end-x c =
    has-far c.loop-next.invariant c.loop-next-test.true c.if-end-x.true

pub overflow_sub-x : goal.overflow_sub-x
overflow_sub-x c =
    c.loop-next.invariant.ahead c.loop-next-test.true

pub turned-bits-requires : goal.turned-bits-requires
turned-bits-requires c =
    let low = c.loop-next.invariant.ahead c.loop-next-test.true in
    (omega (arith, low), takes-turn c.loop-next.invariant c.loop-next-test.true c.if-end-x.false)

pub loop-next-smaller : goal.loop-next-smaller
loop-next-smaller c = omega arith

pub loop-next-preserved : goal.loop-next-preserved
loop-next-preserved c =
    rw (add-one c.loop-next.next)
    (taken_next c.loop-next.invariant c.loop-next-test.true c.if-end-x.false c.turned-bits.ensures)

pub returns : goal.returns
returns c = has_all c.loop-next.invariant c.loop-next-test.false
