-- `ledger_file::fields::field_end` meets its contract. The invariant: no tab stands in what was passed. Assumes nothing.
use Rattle.listing_text.specs.Text.{tab}
use Rattle.listing_text.proofs.Piecing.{Passed}
use Rattle.ledger_file.proofs.fields.field_end.Given as goal

abbrev pub invariant-loop-i : goal.invariant-loop-i
invariant-loop-i l = Passed tab l.line l.at l.i
