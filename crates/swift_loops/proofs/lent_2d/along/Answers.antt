-- The invariant is `Nearing`, which V0 codes and one beside b1 take further. The measure is what is left up to `stop`.
use native.Mathlib.Omega.{arith}
use Rattle.swift_loops.proofs.Beside.{nearing-new, nearing-done, nearing-few, nearing-low, nearing-other, nearing-short}
use Rattle.swift_loops.proofs.Beside.{nearing-on, nearing-less}
use Rattle.swift_loops.proofs.lent_2d.along.Goals as goal

pub loop-s-init : goal.loop-s-init
loop-s-init c = nearing-new c.requires _

pub to_each-t-requires : goal.to_each-t-requires
to_each-t-requires c = (c.loop-s.invariant.turned, c.loop-s.invariant.low)

pub shape_of-row-then-stop-t : goal.shape_of-row-then-stop-t
shape_of-row-then-stop-t c =
    omega (arith, c.loop-s.invariant.size, c.to_each-t.auto.row)

pub returns-then-stop-t : goal.returns-then-stop-t
returns-then-stop-t c =
    nearing-done c.requires c.loop-s.invariant c.to_each-t.ensures

pub overflow_sub-left : goal.overflow_sub-left
overflow_sub-left c = omega (arith, c.to_each-t.ensures.forth)

pub overflow_shl-left : goal.overflow_shl-left
overflow_shl-left c =
    omega (arith, nearing-few c.requires c.loop-s.invariant c.to_each-t.ensures c.if-stop-t.false)

pub beside-requires : goal.beside-requires
beside-requires c =
    let straights = c.to_each-t in
    (straights.ensures.turned, nearing-low c.requires c.loop-s.invariant straights.ensures c.if-stop-t.false)

pub shape_of-row-in_default : goal.shape_of-row-in_default
shape_of-row-in_default c =
    omega (arith, c.loop-s.invariant.size, c.to_each-t.auto.row, c.beside.auto.row)

pub returns-in_default : goal.returns-in_default
returns-in_default c =
    let straights = c.to_each-t in
    nearing-other c.requires c.loop-s.invariant straights.ensures c.if-stop-t.false c.beside.ensures
    c.in_default.is

pub overflow_sub-rest : goal.overflow_sub-rest
overflow_sub-rest c =
    let straights = c.to_each-t in
    omega (
      arith,
      nearing-short c.requires c.loop-s.invariant straights.ensures c.if-stop-t.false c.beside.ensures
          c.in-Some.is,
    )

pub overflow_shl-rest : goal.overflow_shl-rest
overflow_shl-rest c =
    let straights = c.to_each-t in
    omega (
      arith,
      nearing-short c.requires c.loop-s.invariant straights.ensures c.if-stop-t.false c.beside.ensures
          c.in-Some.is,
    )

pub loop-s-smaller : goal.loop-s-smaller
loop-s-smaller c =
    let straights = c.to_each-t in
    nearing-less c.requires c.loop-s.invariant straights.ensures c.if-stop-t.false c.beside.ensures
    c.in-Some.is

pub loop-s-preserved : goal.loop-s-preserved
loop-s-preserved c =
    let straights = c.to_each-t in
    let side = c.beside in
    nearing-on c.requires c.loop-s.invariant straights.ensures c.if-stop-t.false side.ensures c.in-Some.is
    (omega (arith, straights.auto.row)) (omega (arith, side.auto.row))
