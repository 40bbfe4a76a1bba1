-- `writer::line::last_of` meets its contract. Assumes nothing.
use mathlib.Core.Path.{refl}
use Prim.Native.Nat.{◌<◌}
use native.Mathlib.Omega.{arith}
use borrow.Author.Tests.{eq-eqb, ne_eqb}
use Rattle.writer.proofs.line.last_of.Goals as goal

pub returns-then-k-eq0 : goal.returns-then-k-eq0
returns-then-k-eq0 c = rw (eq-eqb _ 0 c.if-k-eq0.true) refl

pub overflow_add-result : goal.overflow_add-result
overflow_add-result c =
    let h : 0 < c.args.k = omega (arith, c.if-k-eq0.false) in
    record { fits = omega (arith, c.requires h) }

pub offset_bounds-row-place : goal.offset_bounds-row-place
offset_bounds-row-place c =
    let h : 0 < c.args.k = omega (arith, c.if-k-eq0.false) in
    omega (arith, c.requires h)

pub bounds-row-place : goal.bounds-row-place
bounds-row-place c =
    let h : 0 < c.args.k = omega (arith, c.if-k-eq0.false) in
    omega (arith, c.requires h)

pub returns : goal.returns
returns c = rw (ne_eqb _ 0 c.if-k-eq0.false) refl
