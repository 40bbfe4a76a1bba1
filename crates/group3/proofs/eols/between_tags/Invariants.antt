-- `group3::eols::between_tags` meets its contract. The loop's invariant: the EOLs joined so far; the measure is the bits left. Assumes nothing.
use Prim.Native.Nat.{◌-◌, ◌*◌}
use lib.ListN.{length}
use Rattle.group3.proofs.TagBits.{Joined}
use Rattle.group3.proofs.eols.between_tags.Given as goal

abbrev pub invariant-loop-later : goal.invariant-loop-later
invariant-loop-later l = Joined l.src l.initial.count l.initial.at l.count l.at

abbrev pub decreases-loop-later : goal.decreases-loop-later
decreases-loop-later l = 8 * length l.src - l.at
