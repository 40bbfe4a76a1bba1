-- `bitmap::painting::rows` meets its contract. The invariant: painting the rows that are left gives what painting all of them does.
-- Assumes nothing.
use mathlib.Core.Path.{◌≡◌}
use mathlib.Core.Bool.{true}
use Prim.Native.Nat.{◌-◌, ◌*◌}
use lib.ListN.{length, drop}
use Rattle.rules.specs.Write.{rows_in}
use Rattle.row_store.specs.Store.{good_rows}
use Rattle.bitmap.specs.Packed.{painted_from}
use Rattle.bitmap.proofs.painting.rows.Given as goal

abbrev pub invariant-loop-k : goal.invariant-loop-k
invariant-loop-k l =
    (good_rows l.width l.changes l.base (drop l.k l.ends) ≡ true) × (length l.out ≡ length l.initial.out) ×
    (painted_from l.one l.width l.stride (l.k * l.stride) (rows_in l.base l.changes (drop l.k l.ends)) l.out ≡ painted_from l.one l.width l.stride 0 (rows_in 0 l.changes l.ends) l.initial.out)

abbrev pub decreases-loop-k : goal.decreases-loop-k
decreases-loop-k l = length l.ends - l.k
