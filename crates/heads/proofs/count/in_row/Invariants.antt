-- `heads::count::in_row` meets its contract. The invariant: what is counted, and the black pixels that are left, are all of them. Assumes nothing.
use mathlib.Core.Path.{◌≡◌}
use Prim.Native.Nat.{◌+◌, ◌-◌, ◌≤◌}
use lib.ListN.{length, drop}
use Rattle.rules.specs.Codes.{white}
use Rattle.heads.specs.Steps.{coloured, black_between}
use Rattle.heads.proofs.count.in_row.Given as goal

abbrev pub invariant-loop-change : goal.invariant-loop-change
invariant-loop-change l = (l.left ≤ l.at) × (l.at ≤ l.right) × (l.count ≤ l.at - l.left) × (l.change-index ≤ length l.row) × (l.count + black_between (coloured l.black) (drop l.change-index l.row) l.at l.right ≡ black_between white l.row l.left l.right)
