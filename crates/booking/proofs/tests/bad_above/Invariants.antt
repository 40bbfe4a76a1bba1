-- The invariant: the first of the rows that are left is that of all. Assumes nothing.
use mathlib.Core.Path.{◌≡◌}
use Prim.Native.Nat.{◌-◌, ◌≤◌}
use lib.ListN.{length}
use Rattle.form_file.specs.First.{first_of}
use Rattle.booking.specs.Testing.{unclean_above}
use Rattle.booking.proofs.tests.bad_above.Given as goal

abbrev pub invariant-loop-y : goal.invariant-loop-y
invariant-loop-y l = (l.y ≤ length l.marks) × (first_of (unclean_above l.marks l.low) (length l.marks - l.y) l.y ≡ first_of (unclean_above l.marks l.low) (length l.marks) 0)
