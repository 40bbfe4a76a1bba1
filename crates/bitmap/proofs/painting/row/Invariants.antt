-- `bitmap::painting::row` meets its contract. The invariant: so many bytes stand, and what the next word asks. Assumes nothing.
use mathlib.Core.Path.{◌≡◌}
use Prim.Native.Nat.{◌-◌, ◌*◌, ◌<◌}
use lib.ListN.{length, take}
use Rattle.bitmap.specs.Packed.{bytes_from}
use Rattle.bitmap.specs.Steps.{Standing}
use Rattle.bitmap.proofs.RowBytes.{shown_in}
use Rattle.bitmap.proofs.painting.row.Given as goal

abbrev pub invariant-loop-i : goal.invariant-loop-i
invariant-loop-i l =
    Standing l.width l.row l.next l.black (8 * l.i) × (8 * l.i < l.width) × (length l.out ≡ length l.initial.out) ×
    (take l.i l.out ≡ bytes_from (shown_in l.one l.width l.row) l.i 0)

abbrev pub decreases-loop-i : goal.decreases-loop-i
decreases-loop-i l = length l.initial.out - l.i
