-- `ledger_file::fields::field_start` meets its contract. The invariant: the field that is sought is so many fields behind. Assumes nothing.
use native.Mathlib.Omega.{arith}
use Rattle.listing_text.proofs.Piecing.{left-all, left-none, left-next, left-past, left-as}
use Rattle.ledger_file.proofs.Fielding.{to-field, field-from}
use Rattle.ledger_file.proofs.fields.field_start.Goals as goal

pub loop-passed-init : goal.loop-passed-init
loop-passed-init c = left-as (left-all _ _ _) (omega arith)

pub field_end-end-requires : goal.field_end-end-requires
field_end-end-requires c = c.loop-passed.invariant.inside

pub returns-then-end-line : goal.returns-then-end-line
returns-then-end-line c = field-from (left-past c.loop-passed.invariant (omega (arith, c.loop-passed-test.true)) (to-field c.field_end-end.ensures) c.if-end-line.true)

pub overflow_add-at : goal.overflow_add-at
overflow_add-at c = record { fits = omega (arith, c.field_end-end.ensures.inside) }

pub loop-passed-preserved : goal.loop-passed-preserved
loop-passed-preserved c =
    left-as (left-next c.loop-passed.invariant (omega (arith, c.loop-passed-test.true)) (to-field c.field_end-end.ensures) c.if-end-line.false) (omega arith)

pub returns : goal.returns
returns c = field-from (left-none c.loop-passed.invariant (omega (arith, c.loop-passed-test.false)))
