-- `writer::same_line1::same_line1` meets its contract. The loop's invariant, `Tracing1`: the runs that are left come to the line. Assumes nothing.
use mathlib.Core.Path.{refl}
use Rattle.writer.proofs.Leaving.{passed_on}
use Rattle.writer.proofs.AlongLine1.{change-low}
use Rattle.writer.proofs.CodesMet3.{trace1, run-parts, run_on, line1-met}
use Rattle.writer.proofs.same_line1.same_line1.Goals as goal

pub loop-change-init : goal.loop-change-init
loop-change-init c = trace1 c.requires.1 c.requires.2

pub overflow_sub-run : goal.overflow_sub-run
overflow_sub-run c = change-low c.loop-change.invariant.along c.loop-change-test.true

pub same_run-requires : goal.same_run-requires
same_run-requires c = (c.requires.0, c.loop-change.invariant.left.loading)

pub returns-in_err-next : goal.returns-in_err-next
returns-in_err-next c = passed_on _ c.from_residual.ensures.1 (run-parts c.loop-change.invariant c.loop-change-test.true c.in_err-next.ensures refl)

pub overflow_sub-colour : goal.overflow_sub-colour
overflow_sub-colour c = c.loop-change.invariant.along.coloured

pub loop-change-preserved : goal.loop-change-preserved
loop-change-preserved c = run_on c.loop-change.invariant c.loop-change-test.true c.in_ok-next.ensures refl

pub overflow_sub-left : goal.overflow_sub-left
overflow_sub-left c = c.loop-change.invariant.along.fits

pub same_run-requires-2 : goal.same_run-requires-2
same_run-requires-2 c = (c.requires.0, c.loop-change.invariant.left.loading)

pub returns : goal.returns
returns c = line1-met c.loop-change.invariant c.loop-change-test.false c.same_run-2.ensures
