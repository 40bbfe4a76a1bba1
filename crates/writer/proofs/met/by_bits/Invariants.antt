-- `writer::met::by_bits` meets its contract. The loop's invariant: the bits that are left come to the code's. Assumes nothing.
use Prim.Native.Nat.{◌≤◌}
use Rattle.rules.specs.Bits.{bits_for}
use Rattle.writer.proofs.Leaving.{Left}
use Rattle.writer.proofs.met.by_bits.Given as goal

abbrev pub invariant-loop-left : goal.invariant-loop-left
invariant-loop-left l = Left l.src l.next (bits_for l.left l.word) l.at (bits_for l.size l.word) × (l.left ≤ l.size)

abbrev pub decreases-loop-left : goal.decreases-loop-left
decreases-loop-left l = l.left
