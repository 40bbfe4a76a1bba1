-- `ledger_file::fields::number_in` meets its contract. Assumes nothing.
use Rattle.ledger_file.proofs.Fielding.{number-none, number-some}
use mathlib.Core.Path.{◌∙◌}
use Rattle.ledger_file.proofs.fields.number_in.Goals as goal

pub returns-then-word-eq0 : goal.returns-then-word-eq0
returns-then-word-eq0 c = number-none c.args.word.now c.if-word-eq0.true

pub returns : goal.returns
returns c = c.value.ensures ∙ number-some c.args.word.now c.if-word-eq0.false
