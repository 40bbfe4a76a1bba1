-- The invariant: what was noted, and the test of what is left, are the test of the whole row, below the width that every change of 32 bits
-- is below.
use mathlib.Core.Path.{◌≡◌}
use Prim.Native.Nat.{ℕ, ◌≤◌}
use Rattle.rules.specs.Pages.{ascends_from}
use Rattle.context.proofs.RowTest.{left_test}
use Rattle.context.proofs.reference.ascends.Given as goal

abbrev wide : ℕ
wide = 4294967296

abbrev pub invariant-loop-place : goal.invariant-loop-place
invariant-loop-place l = (1 ≤ l.place) × (left_test wide l.row l.rising l.place ≡ ascends_from wide 0 l.row)
