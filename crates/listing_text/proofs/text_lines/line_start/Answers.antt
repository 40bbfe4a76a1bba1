-- `listing_text::text_lines::line_start` meets its contract. The invariant: the line that is sought is so many lines behind. Assumes nothing.
use native.Mathlib.Omega.{arith}
use Rattle.listing_text.proofs.Piecing.{left-all, left-none, left-next, left-past, left-as}
use Rattle.listing_text.proofs.Lining.{to-line, line-from}
use Rattle.listing_text.proofs.text_lines.line_start.Goals as goal

pub loop-passed-init : goal.loop-passed-init
loop-passed-init c = left-as (left-all _ _ _) (omega arith)

pub line_end-end-requires : goal.line_end-end-requires
line_end-end-requires c = c.loop-passed.invariant.inside

pub returns-then-end-text : goal.returns-then-end-text
returns-then-end-text c = line-from (left-past c.loop-passed.invariant (omega (arith, c.loop-passed-test.true)) (to-line c.line_end-end.ensures) c.if-end-text.true)

pub overflow_add-at : goal.overflow_add-at
overflow_add-at c = record { fits = omega (arith, c.line_end-end.ensures.inside) }

pub loop-passed-preserved : goal.loop-passed-preserved
loop-passed-preserved c =
    left-as (left-next c.loop-passed.invariant (omega (arith, c.loop-passed-test.true)) (to-line c.line_end-end.ensures) c.if-end-text.false) (omega arith)

pub returns : goal.returns
returns c = line-from (left-none c.loop-passed.invariant (omega (arith, c.loop-passed-test.false)))
