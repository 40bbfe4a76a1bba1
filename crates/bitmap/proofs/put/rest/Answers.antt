-- `bitmap::put::rest` meets its contract. The invariant: so many bytes stand. Assumes nothing.
use Prim.Native.Nat.{◌+◌, ◌-◌, ◌<◌}
use mathlib.Core.Path.{◌≡◌}
use native.Mathlib.Omega.{arith}
use native.Mathlib.Numerals.{add-one}
use lib.ListN.{length}
use Rattle.bitmap.proofs.Packing.{puts_none, puts-next}
use Rattle.bitmap.proofs.put.rest.Goals as goal

pub loop-j-init : goal.loop-j-init
loop-j-init c = (omega (arith, c.requires.0), puts_none _ _ _)

pub byte-requires : goal.byte-requires
byte-requires c = omega (arith, c.loop-j.invariant.1.size, c.requires.1)

pub loop-j-smaller : goal.loop-j-smaller
loop-j-smaller c =
    omega (arith, c.loop-j.invariant.1.size)

pub loop-j-preserved : goal.loop-j-preserved
loop-j-preserved c =
    let h : c.args.i + c.loop-j.j < length c.args.out.now = omega (arith, c.loop-j.invariant.1.size, c.loop-j-test.true) in
    (omega arith, rw (add-one c.loop-j.j) (puts-next c.loop-j.j c.args.i c.args.bits _ c.byte.ensures h c.loop-j.invariant.1))

pub shape_of-out : goal.shape_of-out
shape_of-out c = c.loop-j.invariant.1.size

pub returns : goal.returns
returns c =
    let e : length c.args.out.now - c.args.i ≡ c.loop-j.j = omega
    (arith, c.loop-j.invariant.0, c.loop-j.invariant.1.size, c.loop-j-test.false) in
    rw e c.loop-j.invariant.1
