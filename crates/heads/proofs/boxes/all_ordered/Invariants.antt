-- The invariant: the test of the rows that are left is that of all. Assumes nothing.
use mathlib.Core.Path.{◌≡◌}
use Prim.Native.Nat.{◌≤◌}
use lib.ListN.{drop}
use Rattle.heads.specs.Form.{all, ordered}
use Rattle.heads.proofs.boxes.all_ordered.Given as goal

abbrev pub invariant-loop-row : goal.invariant-loop-row
invariant-loop-row l = (l.row-index ≤ 10) × (all (all ordered) (drop l.row-index l.fn.form) ≡ all (all ordered) l.fn.form)
