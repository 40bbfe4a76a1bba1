-- `codes::eol::read_eols` meets its contract. The invariant: the EOLs counted so far stand before `at`. Assumes nothing.
use Rattle.codes.proofs.Eols.{Counted}
use Rattle.codes.proofs.eol.read_eols.Given as goal

abbrev pub invariant-loop-count : goal.invariant-loop-count
invariant-loop-count l = Counted l.src l.max l.from l.count l.at
