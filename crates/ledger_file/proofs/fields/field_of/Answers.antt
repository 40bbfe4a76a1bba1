-- `ledger_file::fields::field_of` meets its contract. Assumes nothing.
use Rattle.ledger_file.proofs.Fielding.{field_is}
use mathlib.Core.Path.{sym}
use Rattle.ledger_file.proofs.fields.field_of.Goals as goal

pub returns : goal.returns
returns c = sym (field_is c.field_start-from.ensures c.field_end-end.ensures)
