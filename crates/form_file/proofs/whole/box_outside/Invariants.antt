-- `form_file::whole::box_outside` meets its contract. The invariant: the first box that is sought lies ahead. Assumes nothing.
use mathlib.Core.Bool.{not}
use Rattle.form_file.specs.Going.{within}
use Rattle.form_file.specs.FormFile.{box_at}
use Rattle.form_file.proofs.Firsts.{Sought}
use Rattle.form_file.proofs.whole.box_outside.Given as goal

abbrev pub invariant-loop-k : goal.invariant-loop-k
invariant-loop-k l = Sought (λ i. not (within l.columns l.least (box_at l.boxes i))) 20 0 l.k
