-- `codes::eol::skip_to_eol` meets its contract. The search's invariant: it goes on at `at`; the inner loop's: it does, and up to the limit the buffer has the
-- bits from there on. Both measures are the bits left. Assumes nothing.
use Prim.Native.Nat.{◌-◌, ◌*◌, ◌≤◌}
use lib.ListN.{length}
use Rattle.bit_reader.specs.Loaded.{Loaded}
use Rattle.codes.proofs.Eols.{Searching, held}
use Rattle.codes.proofs.eol.skip_to_eol.Given as goal

abbrev pub invariant-loop-at : goal.invariant-loop-at
invariant-loop-at l = Searching l.src l.from l.at × (l.at ≤ l.limit → Loaded l.src (held l.limit l.at l.bits)) × (l.initial.at ≤ l.limit)

abbrev pub decreases-loop-at : goal.decreases-loop-at
decreases-loop-at l = 8 * length l.src - l.at

abbrev pub invariant-search : goal.invariant-search
invariant-search l = Searching l.src l.from l.at

abbrev pub decreases-search : goal.decreases-search
decreases-search l = 8 * length l.src - l.at
