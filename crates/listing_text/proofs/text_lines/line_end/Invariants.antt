-- `listing_text::text_lines::line_end` meets its contract. The invariant: no line feed stands in what was passed. Assumes nothing.
use Rattle.listing_text.specs.Text.{newline}
use Rattle.listing_text.proofs.Piecing.{Passed}
use Rattle.listing_text.proofs.text_lines.line_end.Given as goal

abbrev pub invariant-loop-i : goal.invariant-loop-i
invariant-loop-i l = Passed newline l.text l.at l.i
