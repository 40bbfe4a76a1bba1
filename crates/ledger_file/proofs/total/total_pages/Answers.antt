-- `ledger_file::total::total_pages` meets its contract. Assumes nothing.
use mathlib.Core.Path.{ap, ◌∙◌}
use Rattle.ledger_file.specs.Total.{number_ahead}
use Rattle.ledger_file.proofs.total.total_pages.Goals as goal

pub returns : goal.returns
returns c = c.number_ahead.ensures ∙ ap number_ahead c.field_of.ensures
