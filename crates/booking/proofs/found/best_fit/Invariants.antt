-- The invariant: the best of the offsets that are left is that of all. Assumes nothing.
use Rattle.booking.specs.Found.{best_from}
use Rattle.heads.specs.Form.{page_in}
use Prim.Native.Nat.{suc, ◌-◌}
use mathlib.Core.Path.{◌≡◌}
use Rattle.booking.proofs.found.best_fit.Given as goal

abbrev pub invariant-loop-i : goal.invariant-loop-i
invariant-loop-i l = best_from l.across l.down l.count l.boxes l.places (page_in l.columns l.changes l.ends) (l.offsets - l.i) l.i l.best l.fewest ≡ best_from l.across l.down l.count l.boxes l.places (page_in l.columns l.changes l.ends) l.offsets 0 l.offsets (suc l.count)
