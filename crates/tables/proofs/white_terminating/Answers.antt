-- The source's rows are those of the rule's codes, by computation.
use mathlib.Core.Path.{refl}
use Rattle.rules.specs.Codes.{white_terminating}
use Rattle.tables.proofs.white_terminating.Goals as goal

pub returns : goal.returns
unfolding white_terminating
returns c = refl
