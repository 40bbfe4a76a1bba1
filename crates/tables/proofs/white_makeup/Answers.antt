-- The source's rows are those of the rule's codes, by computation.
use mathlib.Core.Path.{refl}
use Rattle.rules.specs.Codes.{white_makeup}
use Rattle.tables.proofs.white_makeup.Goals as goal

pub returns : goal.returns
unfolding white_makeup
returns c = refl
