-- Each edge. Assumes nothing.
use mathlib.Core.Path.{refl}
use Rattle.booking.proofs.moving.moved.Reads as reads
use Rattle.booking.proofs.moving.moved.Lts as lts
use Rattle.booking.proofs.moving.moved_edge.Reads as moved-edge-reads
use Rattle.booking.proofs.moving.moved.Goals as goal

pub returns : goal.returns
returns c = rw (c.moved_edge.ensures, c.moved_edge-2.ensures, c.moved_edge-3.ensures, c.moved_edge-4.ensures) refl
