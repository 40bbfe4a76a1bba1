-- `ledger_file::fields::field_start` meets its contract. The invariant: the field that is sought is so many fields behind. Assumes nothing.
use Prim.Native.Nat.{◌-◌}
use Rattle.listing_text.specs.Text.{tab}
use Rattle.listing_text.proofs.Piecing.{Left}
use Rattle.ledger_file.proofs.fields.field_start.Given as goal

abbrev pub invariant-loop-passed : goal.invariant-loop-passed
invariant-loop-passed l = Left tab l.line l.k l.at (l.k - l.passed)
