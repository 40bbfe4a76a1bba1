-- `form_file::words::value` meets its contract. The invariant: the number of the digits that were passed. Assumes nothing.
use Rattle.form_file.proofs.Wording.{Valuing}
use Rattle.form_file.proofs.words.value.Given as goal

abbrev pub invariant-loop-b : goal.invariant-loop-b
invariant-loop-b l = Valuing l.word l.n l.b-index
