-- The invariant: each change before the place lies left of the bound.
use Rattle.context.specs.Reference.{Passed}
use Rattle.context.proofs.reference.scan.Given as goal

abbrev pub invariant-loop-place : goal.invariant-loop-place
invariant-loop-place l = Passed l.least l.place l.reference
