-- `ledger::phrases::plain_at` meets its contract. Assumes nothing.
use native.Mathlib.Omega.{arith}
use Rattle.ledger.proofs.Reasons.{plain-page, plain-between, plain-above, plain_form}
use Rattle.ledger.proofs.phrases.plain_at.Goals as goal

pub returns-then-number-le-OTHER_TICKS : goal.returns-then-number-le-OTHER_TICKS
returns-then-number-le-OTHER_TICKS c = plain-page _ (omega arith)

pub returns-then-number-lt-NO_FORM_LINE : goal.returns-then-number-lt-NO_FORM_LINE
returns-then-number-lt-NO_FORM_LINE c = plain-between _ (omega arith) (omega arith)

pub returns-then-number-gt-CUT_FILE : goal.returns-then-number-gt-CUT_FILE
returns-then-number-gt-CUT_FILE c = plain-above _ (omega arith)

pub returns : goal.returns
returns c = plain_form _ (omega arith) (omega arith)
