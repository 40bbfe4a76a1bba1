-- The invariant: the first of the rows that are left is that of all. Assumes nothing.
use mathlib.Core.Path.{◌≡◌}
use Prim.Native.Nat.{◌-◌}
use Rattle.form_file.specs.First.{first_of}
use Rattle.booking.specs.Testing.{unclean_at}
use Rattle.booking.proofs.tests.bad_row.Given as goal

abbrev pub invariant-loop-y : goal.invariant-loop-y
invariant-loop-y l = first_of (unclean_at l.marks) (l.bottom - l.y) l.y ≡ first_of (unclean_at l.marks) (l.bottom - l.top) l.top
