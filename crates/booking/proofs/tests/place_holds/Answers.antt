-- By the kind of the place. Assumes nothing.
use Prim.Native.Nat.{◌+◌, ◌*◌}
use native.Mathlib.Omega.{arith}
use Rattle.heads.specs.Form.{page_in}
use Rattle.booking.proofs.Placed.{black-holds, white-holds}
use Rattle.booking.proofs.tests.place_holds.Goals as goal

pub overflow_cast-asked : goal.overflow_cast-asked
overflow_cast-asked c = omega (arith, c.type_inv.places (7 * c.args.k + 5))

pub returns-then-places-k-eq-BLACK : goal.returns-then-places-k-eq-BLACK
returns-then-places-k-eq-BLACK c =
    let a = c.args in
    black-holds (page_in a.columns a.changes.now a.ends.now) a.places.now a.k c.in_box-count.ensures
    c.box_at.ensures c.if-places-k-eq-BLACK.true

pub returns : goal.returns
returns c =
    let a = c.args in
    white-holds (page_in a.columns a.changes.now a.ends.now) a.places.now a.k c.in_box-count.ensures
    c.box_at.ensures c.if-places-k-eq-BLACK.false
