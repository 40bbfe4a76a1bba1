-- `form_file::words::same` meets its contract. The invariant: the words are as long, and alike as far as they were passed. Assumes nothing.
use Rattle.form_file.proofs.Wording.{Alike}
use Rattle.form_file.proofs.words.same.Given as goal

abbrev pub invariant-loop-i : goal.invariant-loop-i
invariant-loop-i l = Alike l.word l.with l.i
