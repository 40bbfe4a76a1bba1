-- The black lookup table is the rule's, by computation.
use mathlib.Core.Path.{refl}
use Rattle.lookups.proofs.Computed.{computed}
use Rattle.lookups.proofs.black_lookup.Goals as goal

pub returns : goal.returns
unfolding computed
returns c = refl
