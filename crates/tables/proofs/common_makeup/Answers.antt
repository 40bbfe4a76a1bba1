-- The source's rows are those of the rule's codes, by computation.
use mathlib.Core.Path.{refl}
use Rattle.rules.specs.Codes.{common_makeup}
use Rattle.tables.proofs.common_makeup.Goals as goal

pub returns : goal.returns
unfolding common_makeup
returns c = refl
