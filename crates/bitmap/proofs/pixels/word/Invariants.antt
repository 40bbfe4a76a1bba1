-- `bitmap::pixels::word` meets its contract. The invariant is `Taken`: the pixels of the changes that are taken. Assumes nothing.
use Prim.Native.Nat.{◌-◌}
use lib.ListN.{length}
use Rattle.bitmap.proofs.Colours.{Taken}
use Rattle.bitmap.proofs.pixels.word.Given as goal

abbrev pub invariant-loop-next : goal.invariant-loop-next
invariant-loop-next l = Taken l.width l.row l.from l.next l.black l.bits

abbrev pub decreases-loop-next : goal.decreases-loop-next
decreases-loop-next l = length l.row - l.next
