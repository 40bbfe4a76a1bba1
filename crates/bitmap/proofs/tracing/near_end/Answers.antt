-- `bitmap::tracing::near_end` meets its contract. Two halves, or one above zeros. Assumes nothing.
use native.Mathlib.Omega.{arith}
use Rattle.bitmap.proofs.Turnings.{half, halves}
use Rattle.bitmap.proofs.tracing.near_end.Goals as goal

pub returns-then-src-at : goal.returns-then-src-at
returns-then-src-at c =
    let a = c.args in
    half a.src.now (λ i. omega (arith, c.type_inv.src i)) a.at c.peek-high.ensures c.if-src-at.true

pub returns : goal.returns
returns c =
    let a = c.args in
    halves a.src.now (λ i. omega (arith, c.type_inv.src i)) a.at c.peek-high.ensures
    c.peek.ensures
