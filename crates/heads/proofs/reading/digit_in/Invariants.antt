-- The invariant: the ticks so far, and then those that are left, are all of them. Assumes nothing.
use mathlib.Core.Path.{◌≡◌}
use Prim.Native.Nat.{◌≤◌}
use lib.ListN.{drop}
use Rattle.heads.specs.Steps.{only, Small}
use Rattle.heads.specs.Form.{ticks}
use Rattle.heads.proofs.Ticks.{after}
use Rattle.heads.proofs.reading.digit_in.Given as goal

abbrev pub invariant-loop-d : goal.invariant-loop-d
invariant-loop-d l = (l.d ≤ 10) × Small l.digit × (after l.digit (ticks l.least l.column l.d (drop l.d l.table)) ≡ only (ticks l.least l.column 0 l.table))
