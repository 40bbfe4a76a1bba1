-- `form_file::words::uncommented` meets its contract. The invariant: no comment begins in what was passed. Assumes nothing.
use Rattle.form_file.specs.Steps.{is_plain}
use Rattle.form_file.proofs.Ahead.{Walked}
use Rattle.form_file.proofs.words.uncommented.Given as goal

abbrev pub invariant-loop-i : goal.invariant-loop-i
invariant-loop-i l = Walked is_plain l.line 0 l.i
