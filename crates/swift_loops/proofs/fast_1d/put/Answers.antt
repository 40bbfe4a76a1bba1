-- Two runs, each with its change.
use Prim.Native.Nat.{◌<◌}
use native.Mathlib.Omega.{arith}
use lib.ListN.{length-set}
use Rattle.swift_loops.proofs.Running.{pair-ran, pair-paces}
use Rattle.swift_loops.proofs.fast_1d.put.Goals as goal

pub bounds-row-next : goal.bounds-row-next
bounds-row-next c =
    let some : 0 < c.args.pair.white = omega (arith, c.if-pair-eq0.false) in
    omega (arith, length-set c.args.row.now c.args.s.count c.args.s.position, c.requires.roomy, c.requires.halts.fits, some, c.if-width-s.false, c.requires.both some)

pub returns : goal.returns
returns c = λ bytes run known.
    let p = c.requires in
    let a = c.args in
    let some : 0 < a.pair.white = omega (arith, c.if-pair-eq0.false) in
    let fits = c.if-width-s.false in
    (pair-ran bytes a.row.now a.width a.s p.halts p.roomy p.even a.pair (run some) (p.both some) some (omega (arith, fits)), pair-paces bytes a.row.now a.width a.s p.halts p.roomy p.even a.pair (run some) (p.both some) some (omega (arith, fits)) known, omega (arith, some))
