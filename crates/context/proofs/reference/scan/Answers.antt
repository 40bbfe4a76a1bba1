-- The invariant: each change before the place lies left of the bound.
use Rattle.context.proofs.reference.scan.Goals as goal

pub returns-then-least-reference : goal.returns-then-least-reference
returns-then-least-reference c = record { passed = c.loop-place.invariant; stops = λ h. c.if-least-reference.true }
