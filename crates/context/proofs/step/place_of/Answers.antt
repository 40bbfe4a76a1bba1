-- By the number that was tested.
use mathlib.Core.Path.{◌≡◌}
use mathlib.Core.Bool.{true}
use lib.Dec.{eqb}
use borrow.Author.Tests.{eq-eqb, ne_eqb}
use Rattle.context.proofs.step.place_of.Goals as goal

pub returns-then-number-eq-NO_ENTRY : goal.returns-then-number-eq-NO_ENTRY
returns-then-number-eq-NO_ENTRY c = let none : eqb c.args.number 4 ≡ true = eq-eqb _ _ c.if-number-eq-NO_ENTRY.true in simp none

pub returns-else-number-eq-NO_ENTRY : goal.returns-else-number-eq-NO_ENTRY
returns-else-number-eq-NO_ENTRY c = simp (ne_eqb _ _ c.if-number-eq-NO_ENTRY.false)
