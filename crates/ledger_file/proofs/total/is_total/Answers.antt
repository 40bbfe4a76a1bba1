-- `ledger_file::total::is_total` meets its contract. Assumes nothing.
use Rattle.ledger_file.proofs.Totalling.{total-fields, total-name, total-words}
use Rattle.listing_text.specs.Text.{ascii}
use borrow.Author.Tests.{not-true, not-false}
use native.Mathlib.Omega.{arith}
use mathlib.Core.Path.{sym, ◌∙◌}
use Rattle.ledger_file.proofs.total.is_total.Goals as goal

pub returns-then-count-ne5 : goal.returns-then-count-ne5
returns-then-count-ne5 c = total-fields c.args.line.now (λ z. omega (arith, c.count.ensures))

pub returns-then-not-is_field : goal.returns-then-not-is_field
unfolding ascii
returns-then-not-is_field c = total-name c.args.line.now (omega (arith, c.count.ensures)) (sym c.is_field.ensures ∙ not-true _ c.if-not-is_field.true-raw)

pub returns : goal.returns
unfolding ascii
returns c = total-words c.args.line.now (omega (arith, c.count.ensures)) (sym c.is_field.ensures ∙ not-false _ c.if-not-is_field.false-raw) c.has_total_words.ensures
