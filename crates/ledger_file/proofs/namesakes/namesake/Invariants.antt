-- `ledger_file::namesakes::namesake` meets its contract. Assumes nothing.
use Rattle.ledger_file.specs.Sums.{name_at}
use Rattle.form_file.proofs.Firsts.{Sought}
use Rattle.form_file.specs.Words.{same}
use lib.ListN.{get_or}
use Rattle.ledger_file.proofs.namesakes.namesake.Given as goal

abbrev pub invariant-loop-k : goal.invariant-loop-k
invariant-loop-k l = Sought (λ j. same (name_at l.text (get_or l.starts j 0)) (name_at l.text l.at)) l.count 0 l.k
