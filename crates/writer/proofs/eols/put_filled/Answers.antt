-- `writer::eols::put_filled` meets its contract. The loop's invariant: the zeros that are left and the EOL come to all. Assumes nothing.
use native.Mathlib.Omega.{arith}
use Rattle.writer.proofs.Owing.{owes-all}
use Rattle.writer.proofs.EolCodes.{zeros-room, zeros-next, eol-room, eol-ends}
use Rattle.writer.proofs.eols.put_filled.Goals as goal

pub loop-left-init : goal.loop-left-init
loop-left-init c = owes-all _ _ _ _

pub put-next-requires : goal.put-next-requires
put-next-requires c =
    let s = c.chunk-size.ensures in
    zeros-room c.args.fill c.loop-left.left c.loop-left.invariant c.requires _ s.0 s.1 s.2

pub overflow_sub-left : goal.overflow_sub-left
overflow_sub-left c = c.chunk-size.ensures.2

pub loop-left-smaller : goal.loop-left-smaller
loop-left-smaller c = omega (arith, c.chunk-size.ensures, c.loop-left-test.true)

pub loop-left-preserved : goal.loop-left-preserved
loop-left-preserved c =
    let s = c.chunk-size.ensures in
    zeros-next c.args.fill c.loop-left.left c.loop-left.invariant c.requires _ s.0 s.1 s.2 c.put-next.ensures

pub put-requires : goal.put-requires
put-requires c = eol-room c.args.fill c.loop-left.left c.loop-left.invariant c.requires (omega (arith, c.loop-left-test.false)) c.eol.ensures

pub returns : goal.returns
returns c = eol-ends c.args.fill c.loop-left.left c.loop-left.invariant c.requires (omega (arith, c.loop-left-test.false)) c.eol.ensures c.put.ensures
