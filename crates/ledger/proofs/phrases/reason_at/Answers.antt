-- `ledger::phrases::reason_at` meets its contract, case by case. Assumes nothing.
use mathlib.Core.Path.{sym, ◌∙◌}
use native.Mathlib.Omega.{arith}
use Rattle.ledger.proofs.Reasons.{at-12, at-13, at-19, at-22, at-36, at-18, at-34, at_plain}
use Rattle.ledger.proofs.phrases.reason_at.Goals as goal

pub returns-then-number-eq-NOT_ONE_TICK : goal.returns-then-number-eq-NOT_ONE_TICK
returns-then-number-eq-NOT_ONE_TICK c = at-12 c.args.v (omega arith) c.one-units.ensures.value c.one.ensures.value

pub returns-then-number-eq-MENDED_ROW : goal.returns-then-number-eq-MENDED_ROW
returns-then-number-eq-MENDED_ROW c = at-13 c.args.v (λ z. omega arith) (omega arith) c.one-units.ensures.value c.one-then-number-eq-MENDED_ROW.ensures.value

pub returns-then-number-eq-UNCLEAN_ROW : goal.returns-then-number-eq-UNCLEAN_ROW
returns-then-number-eq-UNCLEAN_ROW c = at-19 c.args.v (λ z. omega arith) (λ z. omega arith) (omega arith) c.one-then-number-eq-UNCLEAN_ROW.ensures.value

pub returns-then-number-eq-IN_DOUBT : goal.returns-then-number-eq-IN_DOUBT
returns-then-number-eq-IN_DOUBT c = at-22 c.args.v (λ z. omega arith) (λ z. omega arith) (λ z. omega arith) (omega arith) c.one-units.ensures.value

pub returns-then-number-eq-MISSING_LINE : goal.returns-then-number-eq-MISSING_LINE
returns-then-number-eq-MISSING_LINE c = at-36 c.args.v (λ z. omega arith) (λ z. omega arith) (λ z. omega arith) (λ z. omega arith) (omega arith) c.missing_at.ensures

pub returns-then-is_of_one_number : goal.returns-then-is_of_one_number
returns-then-is_of_one_number c = at-18 c.args.v (λ z. omega arith) (λ z. omega arith) (λ z. omega arith) (λ z. omega arith) (λ z. omega arith) (sym c.is_of_one_number.ensures ∙ c.if-is_of_one_number.true)

pub returns-then-is_of_no_line : goal.returns-then-is_of_no_line
returns-then-is_of_no_line c = at-34 c.args.v (λ z. omega arith) (λ z. omega arith) (λ z. omega arith) (λ z. omega arith) (λ z. omega arith) (sym c.is_of_one_number.ensures ∙ c.if-is_of_one_number.false) (sym c.is_of_no_line.ensures ∙ c.if-is_of_no_line.true)

pub returns : goal.returns
returns c = at_plain c.args.v (λ z. omega arith) (λ z. omega arith) (λ z. omega arith) (λ z. omega arith) (λ z. omega arith) (sym c.is_of_one_number.ensures ∙ c.if-is_of_one_number.false) (sym c.is_of_no_line.ensures ∙ c.if-is_of_no_line.false) c.plain_at.ensures
