-- `writer::run::put_run` meets its contract. The loop's invariant: the codes of what is left come to those of the run.
-- Assumes nothing.
use native.Mathlib.Omega.{arith}
use Rattle.writer.proofs.Owing.{owes-all}
use Rattle.writer.proofs.RunCodes.{largest-held, makeup-room, makeup-put, terminating-room, terminating-put}
use Rattle.writer.proofs.run.put_run.Goals as goal

pub loop-left-init : goal.loop-left-init
loop-left-init c = owes-all _ _ _ _

pub overflow_cast-m : goal.overflow_cast-m
overflow_cast-m c = omega (arith, c.largest-m.ensures, (largest-held c.loop-left.left c.loop-left-test.true).in_table)

pub makeup-code-requires : goal.makeup-code-requires
makeup-code-requires c =
    let l = largest-held c.loop-left.left c.loop-left-test.true in
    (rw c.largest-m.ensures l.some-64s, rw c.largest-m.ensures l.in_table, c.requires.0.makeup)

pub put-next-requires : goal.put-next-requires
put-next-requires c =
    makeup-room _ _ c.requires.1 _ c.loop-left.invariant c.loop-left-test.true _ c.largest-m.ensures
    c.makeup-code.ensures

pub overflow_mul-left : goal.overflow_mul-left
overflow_mul-left c =
    omega (arith, c.largest-m.ensures, (largest-held c.loop-left.left c.loop-left-test.true).in_table)

pub overflow_sub-left : goal.overflow_sub-left
overflow_sub-left c =
    rw c.largest-m.ensures (largest-held c.loop-left.left c.loop-left-test.true).held

pub loop-left-smaller : goal.loop-left-smaller
loop-left-smaller c =
    omega (arith, c.largest-m.ensures, (largest-held c.loop-left.left c.loop-left-test.true).some-64s, c.loop-left-test.true)

pub loop-left-preserved : goal.loop-left-preserved
loop-left-preserved c =
    makeup-put _ _ c.requires.1 _ c.loop-left.invariant c.loop-left-test.true _ c.largest-m.ensures
    c.makeup-code.ensures c.put-next.ensures

pub terminating-code-requires : goal.terminating-code-requires
terminating-code-requires c = (c.loop-left-test.false, c.requires.0.terminating)

pub put-requires : goal.put-requires
put-requires c =
    terminating-room _ _ c.requires.1 _ c.loop-left.invariant c.loop-left-test.false c.terminating-code.ensures

pub returns : goal.returns
returns c =
    terminating-put _ _ c.requires.1 _ c.loop-left.invariant c.loop-left-test.false c.terminating-code.ensures
    c.put.ensures
