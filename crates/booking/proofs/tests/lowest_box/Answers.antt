-- The invariant: the lowest of those that are left, and of those before, is that of all. Assumes nothing.
use mathlib.Core.Path.{◌∙◌}
use native.Mathlib.Omega.{arith}
use Rattle.form_file.specs.FormFile.{box_at}
use Rattle.booking.proofs.Lowest.{lowest_start, lowest-past, lowest-lower, lowest-stays}
use Rattle.booking.proofs.tests.lowest_box.Goals.{then-low-b, else-low-b}
use Rattle.booking.proofs.tests.lowest_box.Goals as goal

pub loop-k-init : goal.loop-k-init
loop-k-init c = lowest_start _ _ _

pub overflow_mul-k : goal.overflow_mul-k
overflow_mul-k c = omega arith

pub box_at-b-requires : goal.box_at-b-requires
box_at-b-requires c = omega arith

pub loop-k-preserved : goal.loop-k-preserved
loop-k-preserved c =
    let a = c.args in
    let k = c.loop-k.k in
    let more = c.loop-k-test.true in
    let is = c.box_at-b.ensures in
    elim c.if-low-b.branch [
      | then-low-b w ↦ lowest-lower (box_at a.boxes.now) k 20 c.loop-k.low more (rw is at w.if-low-b.true) (rw is at w.low-is)
      | else-low-b w ↦ lowest-stays (box_at a.boxes.now) k 20 c.loop-k.low more (rw is at w.if-low-b.false) w.low-is
    ] ∙ c.loop-k.invariant

pub returns : goal.returns
returns c =
    let a = c.args in
    lowest-past (box_at a.boxes.now) c.loop-k.k 20 c.loop-k.low c.loop-k-test.false ∙ c.loop-k.invariant
