-- By the test.
use mathlib.Core.Path.{sym, ◌∙◌}
use borrow.Author.Tests.{not-true, not-false}
use Rattle.ccitt.proofs.unless_short.Goals as goal

pub returns-then-not-is_short : goal.returns-then-not-is_short
returns-then-not-is_short c = rw (sym c.is_short.ensures ∙ not-true _ c.if-not-is_short.true-raw)

pub returns : goal.returns
returns c = rw (sym c.is_short.ensures ∙ not-false _ c.if-not-is_short.false-raw)
