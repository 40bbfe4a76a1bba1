-- The invariant: the test of the boxes that are left is that of all. Assumes nothing.
use Rattle.booking.specs.Found.{box_inside, boxes_inside}
use Rattle.form_file.specs.FormFile.{box_at}
use Rattle.heads.specs.Form.{every}
use Prim.Native.Nat.{◌-◌}
use mathlib.Core.Path.{◌≡◌}
use Rattle.booking.proofs.moving.boxes_inside.Given as goal

abbrev pub invariant-loop-k : goal.invariant-loop-k
invariant-loop-k l = every (λ j. box_inside l.across l.down l.u l.v l.columns l.rows (box_at l.boxes j)) (20 - l.k) l.k ≡ boxes_inside l.across l.down l.u l.v l.columns l.rows l.boxes
