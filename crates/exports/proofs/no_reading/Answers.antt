-- `exports::no_reading` meets its contract: 10 before the rest. Assumes nothing.
use mathlib.Core.Path.{refl}
use borrow.Author.Tests.{eq-eqb, ne_eqb}
use Rattle.rules.specs.Pages.{entries}
use Rattle.exports.proofs.no_reading.Goals as goal

pub returns-then-n-eq0 : goal.returns-then-n-eq0
unfolding entries
returns-then-n-eq0 c = (rw (c.refusal-answer.ensures, eq-eqb c.args.n 0 c.if-n-eq0.true), refl)

pub returns-else-n-eq0 : goal.returns-else-n-eq0
unfolding entries
returns-else-n-eq0 c = (rw (c.refused-answer.ensures, ne_eqb c.args.n 0 c.if-n-eq0.false), refl)
