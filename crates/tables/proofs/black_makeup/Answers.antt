-- The source's rows are those of the rule's codes, by computation.
use mathlib.Core.Path.{refl}
use Rattle.rules.specs.Codes.{black_makeup}
use Rattle.tables.proofs.black_makeup.Goals as goal

pub returns : goal.returns
unfolding black_makeup
returns c = refl
