-- The invariant: the lowest of those that are left, and of those before, is that of all. Assumes nothing.
use mathlib.Core.Path.{◌≡◌}
use Prim.Native.Nat.{◌-◌}
use Rattle.form_file.specs.FormFile.{place_at}
use Rattle.booking.specs.Tests.{lowest}
use Rattle.booking.proofs.tests.lowest_place.Given as goal

abbrev pub invariant-loop-k : goal.invariant-loop-k
invariant-loop-k l = lowest (place_at l.places) (l.count - l.k) l.k l.low ≡ lowest (place_at l.places) l.count 0 l.from
