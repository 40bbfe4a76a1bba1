-- `form_file::whole::first_unsaid` meets its contract. The invariant: the first box that is sought lies ahead. Assumes nothing.
use lib.Dec.{eqb}
use lib.ListN.{get_or}
use Rattle.form_file.proofs.Firsts.{Sought}
use Rattle.form_file.proofs.whole.first_unsaid.Given as goal

abbrev pub invariant-loop-k : goal.invariant-loop-k
invariant-loop-k l = Sought (λ i. eqb (get_or l.lines i 0) 0) 20 0 l.k
