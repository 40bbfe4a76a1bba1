-- The invariant: the test of the rows that are left is that of all. Assumes nothing.
use mathlib.Core.Path.{◌≡◌}
use Prim.Native.Nat.{◌≤◌}
use lib.ListN.{drop}
use Rattle.heads.specs.Form.{all, clean, clean_under}
use Rattle.heads.proofs.boxes.clean.Given as goal

abbrev pub invariant-loop-row : goal.invariant-loop-row
invariant-loop-row l = (l.row-index ≤ 10) × (all (all (clean_under l.columns l.rows l.marks)) (drop l.row-index l.fn.form) ≡ clean l.columns l.rows l.marks l.fn.form)
