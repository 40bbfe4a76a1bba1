-- The shift and the remainder are the ones that the contract says.
use mathlib.Core.Path.{refl}
use Rattle.squeezed.proofs.quarter.Goals as goal

pub returns : goal.returns
returns c = refl
