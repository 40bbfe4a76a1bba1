-- `ledger::said::total_numbers` meets its contract. Assumes unread.
use mathlib.Core.Path.{ap, ◌∙◌}
use Rattle.ledger.specs.Said.{numbers}
use Rattle.ledger.specs.declared.Verdict.{Verdict}
use Rattle.ledger.proofs.said.total_numbers.Goals as goal

pub returns : goal.returns
returns c = c.numbers.ensures ∙ ap (λ (v : Verdict). numbers v c.args.b) c.unread.ensures
