-- `listing_text::text_lines::line_start` meets its contract. The invariant: the line that is sought is so many lines behind. Assumes nothing.
use Prim.Native.Nat.{◌-◌}
use Rattle.listing_text.specs.Text.{newline}
use Rattle.listing_text.proofs.Piecing.{Left}
use Rattle.listing_text.proofs.text_lines.line_start.Given as goal

abbrev pub invariant-loop-passed : goal.invariant-loop-passed
invariant-loop-passed l = Left newline l.text l.k l.at (l.k - l.passed)
