-- The fronts of what is lent. Assumes nothing.
use lib.Seq.{length-take-le}
use native.Mathlib.Omega.{arith}
use mathlib.Core.Path.{sym}
use Rattle.booking.proofs.found.tested_front.Reads as reads
use Rattle.booking.proofs.found.tested_front.Lts as lts
use Rattle.booking.proofs.tests.tested.Reads as tested_reads
use Rattle.booking.proofs.found.tested_front.Goals as goal

pub slice_bounds-tested-end : goal.slice_bounds-tested-end
slice_bounds-tested-end c = let s = c.args in sym (length-take-le 80 s.boxes.now c.requires.2)

pub slice_bounds-tested-end-2 : goal.slice_bounds-tested-end-2
slice_bounds-tested-end-2 c = let s = c.args in sym (length-take-le s.n s.places.now c.requires.4)

pub tested-requires : goal.tested-requires
tested-requires c = (c.requires.0, c.requires.1, length-take-le 80 c.args.boxes.now c.requires.2, omega (arith, length-take-le c.args.n c.args.places.now c.requires.4, c.requires.3))
