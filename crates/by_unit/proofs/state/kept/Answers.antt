use mathlib.Core.Path.{ap, ◌∙◌}
use Rattle.rules.specs.ByUnit.{end_of}
use Rattle.by_unit.proofs.state.kept.Goals as goal

pub returns : goal.returns
returns c = λ i. record { rows = c.args.saved.rows; start = (c.end_of.ensures ∙ ap (end_of c.args.ends.now) c.one_less.ensures) i; base = c.end_of-2.ensures i }
