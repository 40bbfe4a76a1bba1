-- `bitmap::tracing::row` meets its contract. The invariant is `Read`: what is read of the words before. Assumes nothing.
use Prim.Native.Nat.{◌+◌, ◌-◌}
use Rattle.bitmap.specs.Packed.{pixels_at}
use Rattle.bitmap.proofs.Tracings.{Read}
use Rattle.bitmap.proofs.tracing.row.Given as goal

abbrev pub invariant-loop-from : goal.invariant-loop-from
invariant-loop-from l = Read (pixels_at l.one l.src l.at) l.width l.first l.write l.initial.changes l.from l.next l.black l.changes

abbrev pub decreases-loop-from : goal.decreases-loop-from
decreases-loop-from l = l.width + 64 - l.from
