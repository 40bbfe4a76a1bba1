-- `writer::same_run::same_run` meets its contract. The loop's invariant: the codes of what is left come to those of the run.
-- Assumes nothing.
use mathlib.Core.Path.{refl}
use native.Mathlib.Omega.{arith}
use Rattle.tables.specs.Tables.{colour_of}
use Rattle.writer.proofs.Leaving.{left-all, passed_on}
use Rattle.writer.proofs.CodesMet.{makeup-parts, makeup-on, terminating-met}
use Rattle.writer.proofs.RunCodes.{largest-held, makeup-spells, terminating-spells}
use Rattle.writer.proofs.same_run.same_run.Goals as goal

pub loop-left-init : goal.loop-left-init
loop-left-init c = left-all _ c.requires.1

pub overflow_cast-m : goal.overflow_cast-m
overflow_cast-m c = omega (arith, c.largest-m.ensures, (largest-held c.loop-left.left c.loop-left-test.true).in_table)

pub makeup-code-requires : goal.makeup-code-requires
makeup-code-requires c =
    let l = largest-held c.loop-left.left c.loop-left-test.true in
    (rw c.largest-m.ensures l.some-64s, rw c.largest-m.ensures l.in_table, c.requires.0.makeup)

pub meet-requires : goal.meet-requires
meet-requires c =
    (c.loop-left.invariant.loading, (makeup-spells (colour_of c.args.colour) c.loop-left.left c.loop-left-test.true _ c.largest-m.ensures c.makeup-code.ensures).sound)

pub returns-in_err-next : goal.returns-in_err-next
returns-in_err-next c =
    passed_on _ c.from_residual.ensures.1 (makeup-parts (colour_of c.args.colour) _ c.loop-left.left c.loop-left.invariant c.in_err-next.ensures c.loop-left-test.true _ c.largest-m.ensures c.makeup-code.ensures refl)

pub overflow_mul-left : goal.overflow_mul-left
overflow_mul-left c = omega (arith, c.largest-m.ensures, (largest-held c.loop-left.left c.loop-left-test.true).in_table)

pub overflow_sub-left : goal.overflow_sub-left
overflow_sub-left c = rw c.largest-m.ensures (largest-held c.loop-left.left c.loop-left-test.true).held

pub loop-left-smaller : goal.loop-left-smaller
loop-left-smaller c = omega (arith, c.largest-m.ensures, (largest-held c.loop-left.left c.loop-left-test.true).some-64s, c.loop-left-test.true)

pub loop-left-preserved : goal.loop-left-preserved
loop-left-preserved c =
    makeup-on (colour_of c.args.colour) _ c.loop-left.left c.loop-left.invariant c.in_ok-next.ensures c.loop-left-test.true _ c.largest-m.ensures c.makeup-code.ensures refl

pub terminating-code-requires : goal.terminating-code-requires
terminating-code-requires c = (c.loop-left-test.false, c.requires.0.terminating)

pub meet-requires-2 : goal.meet-requires-2
meet-requires-2 c =
    (c.loop-left.invariant.loading, (terminating-spells (colour_of c.args.colour) c.loop-left.left c.loop-left-test.false c.terminating-code.ensures).sound)

pub returns : goal.returns
returns c =
    terminating-met (colour_of c.args.colour) _ c.loop-left.left c.loop-left.invariant c.meet-2.ensures c.loop-left-test.false c.terminating-code.ensures
