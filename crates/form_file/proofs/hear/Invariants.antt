-- `form_file::hear` meets its contract. The invariant is `Going`: the reading of the lines that are left is that of all. Assumes nothing.
use Prim.Native.Nat.{◌-◌}
use lib.ListN.{length}
use Rattle.form_file.specs.Going.{heard_from}
use Rattle.form_file.proofs.Hearing.{Going}
use Rattle.form_file.proofs.hear.Given as goal

abbrev pub invariant-loop-next : goal.invariant-loop-next
invariant-loop-next l = Going l.text (heard_from l.text l.from l.initial.boxes l.initial.lines l.initial.places) l.initial.places l.room l.line l.form l.boxes l.lines l.places l.at

abbrev pub decreases-loop-next : goal.decreases-loop-next
decreases-loop-next l = length l.text - l.at
