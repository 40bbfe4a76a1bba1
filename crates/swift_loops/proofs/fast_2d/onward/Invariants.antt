-- The invariant: every change two places or more before the place lies at the position or left of it. The measure is what is left of the reference.
use mathlib.Core.Path.{◌≡◌}
use Prim.Native.Nat.{suc, ◌+◌, ◌-◌, ◌%◌, ◌≤◌, max}
use lib.ListN.{length}
use Rattle.context.specs.Places.{Left}
use Rattle.swift_loops.proofs.fast_2d.onward.Given as goal

abbrev pub invariant-loop-place : goal.invariant-loop-place
invariant-loop-place l = Left l.reference (l.position + 1) l.place × (l.place % 2 ≡ l.from % 2) × (l.place ≤ max l.from (suc (length l.reference)))

abbrev pub decreases-loop-place : goal.decreases-loop-place
decreases-loop-place l = length l.reference - l.place
