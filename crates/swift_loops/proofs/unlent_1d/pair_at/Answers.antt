-- The pair table's entry, or the codes.
use native.Mathlib.Omega.{arith}
use Rattle.swift_loops.proofs.OnePair.{entry-paired}
use Rattle.swift_loops.proofs.unlent_1d.pair_at.Goals as goal

pub pair-entry-requires : goal.pair-entry-requires
pair-entry-requires c = omega (arith, c.requires)

pub returns : goal.returns
returns c = let entry = c.by_entry.ensures in rw entry.0 (entry-paired c.requires c.pair-entry.ensures c.if-entry-eq0.false entry.1)
