-- `ledger_file::total::digits_end` meets its contract. Assumes nothing.
use Rattle.ledger_file.specs.Total.{is_a_digit}
use Rattle.form_file.proofs.Ahead.{Walked}
use Rattle.ledger_file.proofs.total.digits_end.Given as goal

abbrev pub invariant-loop-i : goal.invariant-loop-i
invariant-loop-i l = Walked is_a_digit l.word 0 l.i
