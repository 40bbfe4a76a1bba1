-- `row_store::ascend` meets its contract. The loop's invariant: the test of the rows that are left is that of all. Assumes nothing.
use mathlib.Core.Path.{◌≡◌}
use Prim.Native.Nat.{◌≤◌}
use lib.ListN.{length, drop}
use Rattle.row_store.specs.Store.{good_rows}
use Rattle.row_store.proofs.ascend.Given as goal

abbrev pub invariant-loop-row_end : goal.invariant-loop-row_end
invariant-loop-row_end l = (l.base ≤ length l.changes) × (good_rows l.width l.changes l.base (drop l.row_end-index l.ends) ≡ good_rows l.width l.changes 0 l.ends)
