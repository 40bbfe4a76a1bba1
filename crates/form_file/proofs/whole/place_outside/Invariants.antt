-- `form_file::whole::place_outside` meets its contract. The invariant: the first place that is sought lies ahead. Assumes nothing.
use mathlib.Core.Bool.{not}
use Prim.Native.Nat.{◌*◌, ◌+◌}
use Rattle.heads.specs.Numbers.{box_in}
use Rattle.form_file.specs.Going.{within}
use Rattle.form_file.proofs.Firsts.{Sought}
use Rattle.form_file.proofs.whole.place_outside.Given as goal

abbrev pub invariant-loop-k : goal.invariant-loop-k
invariant-loop-k l = Sought (λ i. not (within l.columns l.least (box_in l.places (7 * i + 1)))) l.count 0 l.k
