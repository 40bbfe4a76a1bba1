-- `form_file::words::word_end` meets its contract. The invariant: all bytes that were passed are letters. Assumes nothing.
use Rattle.form_file.specs.Steps.{is_letter}
use Rattle.form_file.proofs.Ahead.{Walked}
use Rattle.form_file.proofs.words.word_end.Given as goal

abbrev pub invariant-loop-i : goal.invariant-loop-i
invariant-loop-i l = Walked is_letter l.line l.at l.i
