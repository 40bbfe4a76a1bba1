-- The invariant is `Nearing`, which V0 codes and one beside b1 take further. The measure is what is left up to `stop`.
use native.Mathlib.Omega.{arith}
use Rattle.swift_loops.proofs.Beside.{nearing-new, nearing-done, nearing-few, nearing-low, nearing-other, nearing-short}
use Rattle.swift_loops.proofs.Beside.{nearing-on, nearing-less}
use Rattle.swift_loops.proofs.fast_2d.along.Goals as goal

pub loop-s-init : goal.loop-s-init
loop-s-init c = nearing-new c.requires _

pub to_each-t-requires : goal.to_each-t-requires
to_each-t-requires c = (c.loop-s.invariant.turned, c.loop-s.invariant.low)

pub shape_of-changes-then-stop-t : goal.shape_of-changes-then-stop-t
shape_of-changes-then-stop-t c =
    omega (arith, c.loop-s.invariant.size, c.to_each-t.auto.changes)

pub returns-then-stop-t : goal.returns-then-stop-t
returns-then-stop-t c =
    nearing-done c.requires c.loop-s.invariant c.to_each-t.ensures

pub overflow_sub-left : goal.overflow_sub-left
overflow_sub-left c = omega (arith, c.to_each-t.ensures.forth)

pub overflow_shl-left : goal.overflow_shl-left
overflow_shl-left c =
    omega (arith, nearing-few c.requires c.loop-s.invariant c.to_each-t.ensures c.if-stop-t.false)

pub beside-requires : goal.beside-requires
beside-requires c =
    (c.to_each-t.ensures.turned, nearing-low c.requires c.loop-s.invariant c.to_each-t.ensures c.if-stop-t.false)

pub shape_of-changes-in_default : goal.shape_of-changes-in_default
shape_of-changes-in_default c =
    omega (arith, c.loop-s.invariant.size, c.to_each-t.auto.changes, c.beside.auto.changes)

pub returns-in_default : goal.returns-in_default
returns-in_default c =
    nearing-other c.requires c.loop-s.invariant c.to_each-t.ensures c.if-stop-t.false c.beside.ensures
    c.in_default.is

pub overflow_sub-rest : goal.overflow_sub-rest
overflow_sub-rest c =
    omega (
      arith,
      nearing-short c.requires c.loop-s.invariant c.to_each-t.ensures c.if-stop-t.false c.beside.ensures
          c.in-Some.is,
    )

pub overflow_shl-rest : goal.overflow_shl-rest
overflow_shl-rest c =
    omega (
      arith,
      nearing-short c.requires c.loop-s.invariant c.to_each-t.ensures c.if-stop-t.false c.beside.ensures
          c.in-Some.is,
    )

pub loop-s-smaller : goal.loop-s-smaller
loop-s-smaller c =
    nearing-less c.requires c.loop-s.invariant c.to_each-t.ensures c.if-stop-t.false c.beside.ensures
    c.in-Some.is

pub loop-s-preserved : goal.loop-s-preserved
loop-s-preserved c =
    nearing-on c.requires c.loop-s.invariant c.to_each-t.ensures c.if-stop-t.false c.beside.ensures
    c.in-Some.is (omega (arith, c.to_each-t.auto.changes)) (omega (arith, c.beside.auto.changes))
