-- `writer::bound::surely_fits` meets its contract: what it computes is the bound, and a number. Assumes nothing.
use mathlib.Core.Bool.{true≢false}
use mathlib.Core.Path.{sym}
use native.Mathlib.Omega.{arith}
use borrow.Author.Tests.{leb-true}
use Rattle.writer.proofs.Bounds.{rows_fit}
use Rattle.writer.proofs.bound.surely_fits.Goals as goal

pub returns-then-rows-gt-MOST : goal.returns-then-rows-gt-MOST
returns-then-rows-gt-MOST c = λ e. absurd (true≢false (sym e))

pub overflow_mul-result-2 : goal.overflow_mul-result-2
overflow_mul-result-2 c = rw c.most_row-row.ensures (omega (arith, rows_fit _ c.args.columns c.if-rows-gt-MOST.false (omega (arith, c.ranges.columns))))

pub overflow_add-result : goal.overflow_add-result
overflow_add-result c = rw c.most_row-row.ensures (omega (arith, rows_fit _ c.args.columns c.if-rows-gt-MOST.false (omega (arith, c.ranges.columns)), c.if-entries-gt-MOST.false))

pub overflow_add-result-2 : goal.overflow_add-result-2
overflow_add-result-2 c = rw c.most_row-row.ensures (omega (arith, rows_fit _ c.args.columns c.if-rows-gt-MOST.false (omega (arith, c.ranges.columns)), c.if-entries-gt-MOST.false))

pub returns : goal.returns
returns c = λ e. rw (sym c.last_end-entries.ensures, sym c.most_row-row.ensures) (leb-true _ _ e)
