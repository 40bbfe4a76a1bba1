use mathlib.Core.Path.{sym, ◌∙◌}
use Rattle.by_unit.proofs.Turning.{few-short, few-not}
use Rattle.by_unit.proofs.unless_few.Goals as goal

pub returns-then-is_short : goal.returns-then-is_short
returns-then-is_short c = few-short c.args.settings c.args.answer (sym c.if-is_short.true ∙ c.is_short.ensures)

pub returns : goal.returns
returns c = few-not c.args.settings c.args.answer (sym c.if-is_short.false ∙ c.is_short.ensures)
