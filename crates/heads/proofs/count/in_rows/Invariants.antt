-- `heads::count::in_rows` meets its contract. The invariant: what is counted, and the black pixels of the rows that are left, are all of them. Assumes nothing.
use mathlib.Core.Path.{◌≡◌}
use Prim.Native.Nat.{◌+◌, ◌-◌, ◌*◌, ◌≤◌}
use Rattle.rules.specs.Write.{rows_in}
use Rattle.heads.specs.Steps.{black_rows}
use Rattle.heads.specs.Form.{sum}
use Rattle.heads.proofs.Pixelled.{ink_at}
use Rattle.heads.proofs.count.in_rows.Given as goal

abbrev pub invariant-loop-y : goal.invariant-loop-y
invariant-loop-y l = (l.top ≤ l.y) × (l.count ≤ 4294967295 * (l.y - l.top)) × (l.count + sum (ink_at (rows_in 0 l.changes l.ends) l.left l.right) (l.bottom - l.y) l.y ≡ black_rows (rows_in 0 l.changes l.ends) l.left l.right l.top l.bottom)
