-- `listing_text::settings_line::read_number` meets its contract. The invariant: the digits up to `next` spell `n`. Assumes nothing.
use Prim.Native.Nat.{◌-◌}
use lib.ListN.{length}
use Rattle.listing_text.specs.Reading.{Spelt}
use Rattle.listing_text.proofs.settings_line.read_number.Given as goal

abbrev pub invariant-loop-d : goal.invariant-loop-d
invariant-loop-d l = Spelt l.bytes l.at l.n l.next

abbrev pub decreases-loop-d : goal.decreases-loop-d
decreases-loop-d l = length l.bytes - l.next
