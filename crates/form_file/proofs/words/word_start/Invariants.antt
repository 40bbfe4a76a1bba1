-- `form_file::words::word_start` meets its contract. The invariant: all bytes that were passed are blanks. Assumes nothing.
use Rattle.form_file.specs.Words.{is_blank}
use Rattle.form_file.proofs.Ahead.{Walked}
use Rattle.form_file.proofs.words.word_start.Given as goal

abbrev pub invariant-loop-i : goal.invariant-loop-i
invariant-loop-i l = Walked is_blank l.line l.at l.i
