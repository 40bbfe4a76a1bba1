-- `ledger_file::total::has_total_words` meets its contract. Assumes nothing.
use mathlib.Core.Path.{ap, ◌∙◌}
use Rattle.ledger_file.specs.Total.{is_total_words}
use Rattle.ledger_file.proofs.total.has_total_words.Goals as goal

pub returns : goal.returns
returns c = c.is_total_words.ensures ∙ ap is_total_words c.field_of.ensures
