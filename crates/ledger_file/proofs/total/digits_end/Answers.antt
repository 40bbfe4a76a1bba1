-- `ledger_file::total::digits_end` meets its contract. Assumes nothing.
use Rattle.ledger_file.specs.Total.{is_a_digit}
use Rattle.form_file.proofs.Ahead.{walked-first, walked_next, walked_stop, walked_end}
use borrow.Author.Tests.{not-true, not-false}
use native.Mathlib.Omega.{arith}
use mathlib.Core.Path.{sym, ◌∙◌}
use Rattle.ledger_file.proofs.total.digits_end.Goals as goal

pub loop-i-init : goal.loop-i-init
loop-i-init c = walked-first is_a_digit _ 0

pub returns-then-not-is_digit : goal.returns-then-not-is_digit
returns-then-not-is_digit c = omega (arith, walked_stop is_a_digit c.args.word.now 0 c.loop-i.invariant c.loop-i-test.true (sym c.is_digit.ensures ∙ not-true _ c.if-not-is_digit.true-raw))

pub loop-i-preserved : goal.loop-i-preserved
loop-i-preserved c = walked_next is_a_digit c.args.word.now 0 c.loop-i.invariant c.loop-i-test.true (sym c.is_digit.ensures ∙ not-false _ c.if-not-is_digit.false-raw)

pub returns : goal.returns
returns c = omega (arith, c.loop-i-test.false, walked_end is_a_digit c.args.word.now 0 c.loop-i.invariant c.loop-i-test.false)
