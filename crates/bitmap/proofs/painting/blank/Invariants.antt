-- `bitmap::painting::blank` meets its contract. The invariant: so many bytes stand. Assumes nothing.
use mathlib.Core.Path.{◌≡◌}
use mathlib.Core.List.{[]}
use Prim.Native.Nat.{◌-◌, ◌≤◌}
use lib.ListN.{length, take}
use Rattle.bitmap.specs.Packed.{bytes_from}
use Rattle.bitmap.proofs.RowBytes.{shown_in}
use Rattle.bitmap.proofs.painting.blank.Given as goal

abbrev pub invariant-loop-i : goal.invariant-loop-i
invariant-loop-i l = (l.i ≤ length l.out) × (length l.out ≡ length l.initial.out) × (take l.i l.out ≡ bytes_from (shown_in l.one l.width []) l.i 0)

abbrev pub decreases-loop-i : goal.decreases-loop-i
decreases-loop-i l = length l.initial.out - l.i
