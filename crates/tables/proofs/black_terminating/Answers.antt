-- The source's rows are those of the rule's codes, by computation.
use mathlib.Core.Path.{refl}
use Rattle.rules.specs.Codes.{black_terminating}
use Rattle.tables.proofs.black_terminating.Goals as goal

pub returns : goal.returns
unfolding black_terminating
returns c = refl
