-- `ledger_file::fields::length_of` meets its contract. Assumes nothing.
use mathlib.Core.Path.{ap}
use lib.ListN.{length}
use Rattle.ledger_file.proofs.fields.length_of.Goals as goal

pub returns : goal.returns
returns c = ap length c.field_of-word.ensures
