-- The invariant: the test of the rows that are left is that of all. Assumes nothing.
use mathlib.Core.Path.{◌≡◌}
use Prim.Native.Nat.{◌-◌}
use Rattle.heads.specs.Steps.{clean_rows}
use Rattle.heads.specs.Form.{every}
use Rattle.heads.proofs.Marks.{under}
use Rattle.heads.proofs.boxes.clean_rows.Given as goal

abbrev pub invariant-loop-y : goal.invariant-loop-y
invariant-loop-y l = every (under l.rows l.marks) (l.bottom - l.y) l.y ≡ clean_rows l.rows l.marks l.top l.bottom
