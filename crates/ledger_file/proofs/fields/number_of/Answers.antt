-- `ledger_file::fields::number_of` meets its contract. Assumes nothing.
use mathlib.Core.Path.{ap, ◌∙◌}
use Rattle.ledger_file.specs.Fields.{number_in}
use Rattle.ledger_file.proofs.fields.number_of.Goals as goal

pub returns : goal.returns
returns c = c.number_in.ensures ∙ ap number_in c.field_of.ensures
