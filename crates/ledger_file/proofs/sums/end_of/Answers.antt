-- `ledger_file::sums::end_of` meets its contract. Assumes nothing.
use Rattle.ledger_file.proofs.Adding.{end_line, end-total, end-well}
use Rattle.ledger_file.specs.Tallying.{sum_in}
use native.Mathlib.Omega.{arith}
use Rattle.ledger_file.proofs.sums.end_of.Goals as goal

pub returns-then-at-end : goal.returns-then-at-end
returns-then-at-end c = λ line starts e. let a = c.args in rw c.answer.ensures (end_line a.at line (sum_in a.t starts) (omega (arith, e)))

pub returns-then-books-closed : goal.returns-then-books-closed
returns-then-books-closed c = λ line starts e. let a = c.args in rw c.answer-then-books-closed.ensures (end-total a.at line (sum_in a.t starts) (omega (arith, e)) c.if-books-closed.true)

pub returns : goal.returns
returns c = λ line starts e. let a = c.args in rw c.answer-2.ensures (end-well a.at line (sum_in a.t starts) (omega (arith, e)) c.if-books-closed.false)
