-- `ledger::said::reason_numbers` meets its contract. Assumes nothing.
use Rattle.ledger.specs.declared.Ledger.{Ledger}
use Rattle.ledger.specs.Said.{numbers}
use mathlib.Core.Path.{ap, ◌∙◌}
use Rattle.ledger.proofs.said.reason_numbers.Goals as goal

pub returns : goal.returns
returns c = c.numbers.ensures ∙ ap (λ (b : Ledger). numbers c.args.v b) c.no_books.ensures
