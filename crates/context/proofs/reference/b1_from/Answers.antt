-- The place where the scan stops, or the next, by its parity.
use native.Mathlib.Omega.{arith}
use Rattle.context.proofs.Placing.{stopped-seen, placed_at}
use Rattle.context.proofs.reference.b1_from.Goals as goal

pub scan-stop-requires : goal.scan-stop-requires
scan-stop-requires c = rw c.right_of_a0.ensures c.requires.passed

pub b1_place-requires : goal.b1_place-requires
b1_place-requires c = (omega (arith, c.scan-stop.ensures.passed.inside), c.requires.two_colours)

pub returns : goal.returns
returns c =
    let at = placed_at c.scan-stop.result c.args.colour c.requires.two_colours c.b1_place.ensures in
    let stop = rw c.right_of_a0.ensures at c.scan-stop.ensures in
    record { seen = stopped-seen c.requires.rising stop _ at.0 at.1; parity = at.2; near = omega (arith, at.1, stop.passed.inside) }
