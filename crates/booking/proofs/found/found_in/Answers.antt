-- What is found by the numbers that were moved. Assumes nothing.
use Rattle.booking.proofs.Looking.{can-is, boxes-movable, places-movable, found_in}
use Rattle.heads.specs.Form.{page_in}
use native.Mathlib.Omega.{arith}
use mathlib.Core.Path.{◌≡◌, ◌∙◌}
use Rattle.booking.proofs.found.found_in.Reads as reads
use Rattle.booking.proofs.found.found_in.Lts as lts
use Rattle.booking.proofs.found.tested_front.Reads as tested-front-reads
use Rattle.booking.proofs.moving.move_boxes.Reads as move-boxes-reads
use Rattle.booking.proofs.moving.move_places.Reads as move-places-reads
use Rattle.booking.proofs.found.found_in.Goals as goal

pub overflow_mul-wide : goal.overflow_mul-wide
overflow_mul-wide c = omega (arith, (can-is c.args.form c.args.boxes.now c.args.places.now c.requires.0.can).aside)

pub overflow_add-wide : goal.overflow_add-wide
overflow_add-wide c = omega (arith, (can-is c.args.form c.args.boxes.now c.args.places.now c.requires.0.can).aside)

pub move_boxes-requires : goal.move_boxes-requires
move_boxes-requires c =
    let a = c.args in
    (boxes-movable a.columns a.changes.now a.ends.now a.marks.now a.form a.boxes.now a.places.now a.i c.requires.0 (omega arith), c.requires.1)

pub move_places-requires : goal.move_places-requires
move_places-requires c =
    let a = c.args in (
      places-movable a.columns a.changes.now a.ends.now a.marks.now a.form a.boxes.now a.places.now a.i c.requires.0 (omega arith),
      omega (arith, c.requires.2, (can-is a.form a.boxes.now a.places.now c.requires.0.can).few),
    )

pub tested_front-requires : goal.tested_front-requires
tested_front-requires c =
    let a = c.args in (
      c.requires.0.sound,
      c.requires.0.marked,
      omega (arith, c.moved_boxes-1.given, c.requires.1),
      omega arith,
      omega (arith, c.moved_places-1.given, c.requires.2, (can-is a.form a.boxes.now a.places.now c.requires.0.can).few),
    )

pub returns : goal.returns
returns c =
    let a = c.args in
    c.tested_front.ensures
    ∙ found_in a.form a.boxes.now a.places.now a.encoding (page_in a.columns a.changes.now a.ends.now) a.marks.now a.i _ _ c.move_boxes.ensures c.move_places.ensures
