-- The invariant: the lowest of those that are left, and of those before, is that of all. Assumes nothing.
use mathlib.Core.Path.{◌≡◌}
use Prim.Native.Nat.{◌-◌}
use Rattle.form_file.specs.FormFile.{box_at}
use Rattle.booking.specs.Tests.{lowest}
use Rattle.booking.proofs.tests.lowest_box.Given as goal

abbrev pub invariant-loop-k : goal.invariant-loop-k
invariant-loop-k l = lowest (box_at l.boxes) (20 - l.k) l.k l.low ≡ lowest (box_at l.boxes) 20 0 0
