-- `bitmap::fit::end_of` meets its contract. The product is below the bytes that there are. Assumes nothing.
use native.Mathlib.Omega.{arith}
use mathlib.Core.Path.{sym}
use Rattle.bitmap.proofs.Fitting.{reach-some}
use Rattle.bitmap.proofs.fit.end_of.Goals as goal

pub overflow_mul-result : goal.overflow_mul-result
overflow_mul-result c =
    let a = c.args in
    record { fits = omega (arith, reach-some a.width a.stride a.rows c.if-rows-eq0.false, c.requires, c.ranges.size) }

pub overflow_add-result : goal.overflow_add-result
overflow_add-result c =
    let a = c.args in
    record
    { fits = omega (arith, reach-some a.width a.stride a.rows c.if-rows-eq0.false, c.requires, c.ranges.size, c.row_size.ensures) }

pub returns : goal.returns
returns c =
    let a = c.args in
    rw c.row_size.ensures (sym (reach-some a.width a.stride a.rows c.if-rows-eq0.false))
