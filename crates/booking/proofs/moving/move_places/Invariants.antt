-- The invariant: the places that were moved stand in front of what was lent. Assumes nothing.
use Rattle.booking.specs.Found.{listed, moved_seven}
use Rattle.rules.specs.Pages.{overlaid}
use lib.ListN.{length}
use Prim.Native.Nat.{◌≤◌}
use mathlib.Core.Path.{◌≡◌}
use Rattle.booking.proofs.moving.move_places.Given as goal

abbrev pub invariant-loop-k : goal.invariant-loop-k
invariant-loop-k l = (l.k ≤ l.count) × (length l.out ≡ length l.initial.out) × (l.out ≡ overlaid (listed (moved_seven l.across l.down l.u l.v l.places) l.k 0) l.initial.out)
