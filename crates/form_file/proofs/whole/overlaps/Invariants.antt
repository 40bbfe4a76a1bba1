-- `form_file::whole::overlaps` meets its contract. The invariant: the first box that is sought lies ahead. Assumes nothing.
use mathlib.Core.Bool.{not}
use Rattle.form_file.specs.FormFile.{apart, box_at}
use Rattle.form_file.proofs.Firsts.{Sought}
use Rattle.form_file.proofs.whole.overlaps.Given as goal

abbrev pub invariant-loop-k : goal.invariant-loop-k
invariant-loop-k l = Sought (λ i. not (apart (box_at l.boxes i) (box_at l.boxes l.which))) l.which 0 l.k
