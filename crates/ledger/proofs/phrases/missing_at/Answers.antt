-- `ledger::phrases::missing_at` meets its contract. Assumes nothing.
use native.Mathlib.Omega.{arith}
use Rattle.ledger.proofs.Reasons.{missing-box, missing-page, missing-tick, missing-place}
use Rattle.ledger.proofs.phrases.missing_at.Goals as goal

pub returns-then-which-lt20 : goal.returns-then-which-lt20
returns-then-which-lt20 c = missing-box c.args.v (omega arith) c.one-units.ensures.value

pub returns-then-which-eq20 : goal.returns-then-which-eq20
returns-then-which-eq20 c = missing-page c.args.v (omega arith)

pub returns-then-which-eq21 : goal.returns-then-which-eq21
returns-then-which-eq21 c = missing-tick c.args.v (omega arith)

pub returns : goal.returns
returns c = missing-place c.args.v (omega arith) (λ z. omega arith) (λ z. omega arith)
