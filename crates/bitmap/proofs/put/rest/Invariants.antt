-- `bitmap::put::rest` meets its contract. The invariant: so many bytes stand. Assumes nothing.
use Prim.Native.Nat.{◌+◌, ◌-◌, ◌≤◌}
use lib.ListN.{length}
use Rattle.bitmap.specs.Steps.{Puts}
use Rattle.bitmap.proofs.put.rest.Given as goal

abbrev pub invariant-loop-j : goal.invariant-loop-j
invariant-loop-j l = (l.i + l.j ≤ length l.initial.out) × Puts l.j l.i l.bits l.initial.out l.out

abbrev pub decreases-loop-j : goal.decreases-loop-j
decreases-loop-j l = length l.initial.out - l.j
