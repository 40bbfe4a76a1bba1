-- `bitmap::painting::blank` meets its contract. The invariant: so many bytes stand. Assumes nothing.
use native.Mathlib.Omega.{arith}
use mathlib.Core.Path.{refl, ◌∙◌}
use mathlib.Core.List.{[]}
use lib.ListN.{length-set}
use Rattle.bitmap.proofs.RowBytes.{bytes-none, bytes-all, blank-next}
use Rattle.bitmap.proofs.painting.blank.Goals as goal

pub loop-i-init : goal.loop-i-init
loop-i-init c = (omega arith, refl, bytes-none _ _ _)

pub loop-i-smaller : goal.loop-i-smaller
loop-i-smaller c =
    omega (arith, c.loop-i.invariant.1, c.loop-i-test.true)

pub loop-i-preserved : goal.loop-i-preserved
loop-i-preserved c =
    let size = length-set c.loop-i.out c.loop-i.i c.white_byte-byte.result in (
      omega (arith, size, c.loop-i-test.true),
      size ∙ c.loop-i.invariant.1,
      blank-next c.args.one c.args.width c.loop-i.i c.white_byte-byte.result c.loop-i.out
          c.white_byte-byte.ensures c.loop-i-test.true
          c.loop-i.invariant.2,
    )

pub shape_of-out : goal.shape_of-out
shape_of-out c = c.loop-i.invariant.1

pub returns : goal.returns
returns c =
    let size = c.loop-i.invariant.1 ∙ c.requires in
    bytes-all c.args.one c.args.width [] c.loop-i.i size (omega (arith, size, c.loop-i.invariant.0, c.loop-i-test.false))
    c.loop-i.invariant.2
