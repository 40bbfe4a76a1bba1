-- `writer::line1::put_line1` meets its contract. The loop's invariant, `Going1`: the runs that are left come to the line.
-- Assumes nothing.
use Rattle.writer.proofs.AlongLine1.{change-low}
use Rattle.writer.proofs.Line1Loop.{begin1, run_room, run-next, end-room, ended1}
use Rattle.writer.proofs.line1.put_line1.Goals as goal

pub loop-change-init : goal.loop-change-init
loop-change-init c = begin1 _ c.requires.1

pub overflow_sub-run : goal.overflow_sub-run
overflow_sub-run c = change-low c.loop-change.invariant.along c.loop-change-test.true

pub put_run-next-requires : goal.put_run-next-requires
put_run-next-requires c =
    (c.requires.0, run_room c.loop-change.invariant c.requires.1 c.loop-change-test.true)

pub overflow_sub-colour : goal.overflow_sub-colour
overflow_sub-colour c = c.loop-change.invariant.along.coloured

pub loop-change-preserved : goal.loop-change-preserved
loop-change-preserved c =
    run-next c.loop-change.invariant c.requires.1 c.loop-change-test.true c.put_run-next.ensures

pub overflow_sub-left : goal.overflow_sub-left
overflow_sub-left c = c.loop-change.invariant.along.fits

pub put_run-requires : goal.put_run-requires
put_run-requires c =
    (c.requires.0, end-room c.loop-change.invariant c.requires.1 c.loop-change-test.false)

pub returns : goal.returns
returns c =
    ended1 c.loop-change.invariant c.requires.1 c.loop-change-test.false c.put_run.ensures
