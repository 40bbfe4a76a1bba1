-- One run, and the other behind it.
use Rattle.swift_loops.proofs.OnePair.{codes-paired}
use Rattle.swift_loops.proofs.unlent_1d.by_codes.Goals as goal

pub both_of-requires : goal.both_of-requires
both_of-requires c = (c.front_run_of-first.ensures.few, c.front_run_of-second.ensures.few)

pub returns : goal.returns
returns c = rw c.both_of.ensures (codes-paired c.front_run_of-first.ensures c.top13.ensures.0 c.front_run_of-second.ensures)
