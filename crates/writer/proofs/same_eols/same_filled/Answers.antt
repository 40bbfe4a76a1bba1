-- `writer::same_eols::same_filled` meets its contract. The loop's invariant: the zeros that are left and the EOL come to all. Assumes nothing.
use mathlib.Core.Path.{refl}
use native.Mathlib.Omega.{arith}
use Rattle.writer.proofs.EolCodes.{zeros-spell}
use Rattle.writer.proofs.Leaving.{left-all, passed_on}
use Rattle.writer.proofs.CodesMet3.{fill-parts, fill_on, eol-met}
use Rattle.writer.proofs.same_eols.same_filled.Goals as goal

pub loop-left-init : goal.loop-left-init
loop-left-init c = left-all _ c.requires

pub meet-requires : goal.meet-requires
meet-requires c = (c.loop-left.invariant.loading, (zeros-spell _ c.chunk-size.ensures.0 c.chunk-size.ensures.1).sound)

pub returns-in_err-next : goal.returns-in_err-next
returns-in_err-next c = passed_on _ c.from_residual.ensures.1 (fill-parts c.args.fill c.loop-left.left c.loop-left.invariant _ c.chunk-size.ensures.0 c.chunk-size.ensures.1 c.chunk-size.ensures.2 c.in_err-next.ensures refl)

pub overflow_sub-left : goal.overflow_sub-left
overflow_sub-left c = c.chunk-size.ensures.2

pub loop-left-smaller : goal.loop-left-smaller
loop-left-smaller c = omega (arith, c.chunk-size.ensures, c.loop-left-test.true)

pub loop-left-preserved : goal.loop-left-preserved
loop-left-preserved c = fill_on c.args.fill c.loop-left.left c.loop-left.invariant _ c.chunk-size.ensures.0 c.chunk-size.ensures.1 c.chunk-size.ensures.2 c.in_ok-next.ensures refl

pub meet-requires-2 : goal.meet-requires-2
meet-requires-2 c = (c.loop-left.invariant.loading, c.eol.ensures.sound)

pub returns : goal.returns
returns c = eol-met c.args.fill c.loop-left.left c.loop-left.invariant (omega (arith, c.loop-left-test.false)) c.eol.ensures c.meet-2.ensures
