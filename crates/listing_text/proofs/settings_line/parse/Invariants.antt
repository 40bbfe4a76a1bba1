-- `listing_text::settings_line::parse` meets its contract. The invariant: whatever the bytes from `at` on say, the whole says. Assumes nothing.
use Rattle.listing_text.proofs.Parting.{Reading}
use Rattle.listing_text.proofs.settings_line.parse.Given as goal

abbrev pub invariant-loop-k : goal.invariant-loop-k
invariant-loop-k l = Reading l.bytes l.at l.k l.n
