-- `form_file::whole::box_over` meets its contract. The invariant: the first box that is sought lies ahead. Assumes nothing.
use Rattle.form_file.specs.FormFile.{overlaps}
use Rattle.form_file.proofs.Firsts.{Sought}
use Rattle.form_file.proofs.whole.box_over.Given as goal

abbrev pub invariant-loop-k : goal.invariant-loop-k
invariant-loop-k l = Sought (overlaps l.boxes) 20 0 l.k
