-- The invariant: the first of those that are left is that of all. Assumes nothing.
use mathlib.Core.Path.{◌≡◌}
use Prim.Native.Nat.{◌-◌}
use Rattle.form_file.specs.First.{first_of}
use Rattle.booking.specs.Testing.{place_touches}
use Rattle.booking.proofs.tests.bad_place.Given as goal

abbrev pub invariant-loop-k : goal.invariant-loop-k
invariant-loop-k l = first_of (place_touches l.columns l.marks l.places) (l.count - l.k) l.k ≡ first_of (place_touches l.columns l.marks l.places) l.count 0
