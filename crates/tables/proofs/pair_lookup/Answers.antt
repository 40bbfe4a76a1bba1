-- The pair table is the rule's, by computation.
use mathlib.Core.Path.{refl}
use Rattle.tables.proofs.PairTable.{computed-pairs}
use Rattle.tables.proofs.pair_lookup.Goals as goal

pub returns : goal.returns
unfolding computed-pairs
returns c = refl
