-- The lent pair table's entry, or the codes.
use mathlib.Core.Path.{ap}
use mathlib.Core.List.{List}
use Prim.Native.Nat.{ℕ, ◌/◌}
use native.Mathlib.Omega.{arith}
use lib.ListN.{get_or}
use Rattle.swift_loops.proofs.PairEntries.{pair-table-length}
use Rattle.swift_loops.proofs.OnePair.{entry-paired}
use Rattle.swift_loops.proofs.fast_1d.pair_at.Goals as goal

pub bounds-both-top : goal.bounds-both-top
bounds-both-top c = omega (arith, c.requires.0, pair-table-length c.requires.2)

pub returns : goal.returns
returns c =
    let entry = c.by_entry.ensures in
    rw entry.0 (entry-paired c.requires.0 (ap (λ (l : List ℕ). get_or l (c.args.top / 4) 0) c.requires.2) c.if-entry-eq0.false entry.1)
